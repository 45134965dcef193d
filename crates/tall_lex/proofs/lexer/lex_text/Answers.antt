use Rattle.std.proofs.Common.{◌≡◌, ◌≤◌, length, ℕ, ◌+◌, ◌-◌, ◌<◌, take, drop, List, ap, sym, ◌∙◌, arith}
use Rattle.std.proofs.lemmas.Grind.{common_steps}
use Rattle.std.proofs.lemmas.List.{length-drop}
use Rattle.std.specs.Prelude.{is_ok, if◌then◌else◌, ◌++◌, ◌∷◌, []}
use Rattle.std.proofs.Common.{subst}
use Rattle.tall_lex.specs.declared.tokens.Token.{Token}
use Rattle.tall_lex.specs.declared.pieces.Piece.TheVariants.{Token as token, Gap}
use Rattle.tall_lex.specs.Tokens.{tokens_of, tokens_from, InOrder}
use Rattle.tall_lex.proofs.Steps.{with_all, at_end, at_bad, at_gap, at_token, in_order_one, in_order_more}
use Rattle.tall_lex.proofs.lexer.lex_text.Goals as goal
use Rattle.tall_lex.proofs.lexer.lex_text.Goals.{in-Token+in_ok-map_err-in-Token, in-Gap}

-- the bytes from a place on
rest_is : (text : List ℕ) (at : ℕ) → take (length text - at) (drop at text) ≡ drop at text
rest_is text at = grind (arith, common_steps)

length_rest : (text : List ℕ) (at : ℕ) → length (take (length text - at) (drop at text)) ≡ length text - at
length_rest text at = ap length (rest_is text at) ∙ length-drop at text

length_taken : (n : ℕ) (text : List ℕ) → n ≤ length text → length (take n text) ≡ n
length_taken n text within = grind (arith, common_steps)

pub returns-in-Bad-clause-tokens : goal.returns-in-Bad-clause-tokens
returns-in-Bad-clause-tokens c =
    let bad = at_bad c.args.text.now _ c.loop-at.tokens.items c.loop-at.spot c.past.result c.loop-at.at c.in-Bad.len c.loop-at.closes _
    (rest_is c.args.text.now c.loop-at.at) c.loop-at-test.true c.in-Bad.ensures.value c.past.ensures.after c.loop-at.invariant.all in
    rw c.refusal.ensures bad

pub loop-at-preserved : goal.loop-at-preserved
loop-at-preserved c = elim c.match-piece_at.branch [
  | in-Token+in_ok-map_err-in-Token w ↦
      let fits = w.in-Token.ensures.fits in
      let long : 0 < c.match-piece_at.len = omega (arith, w.len-is, fits.0) in
      let within : c.match-piece_at.len ≤ length (take (length c.args.text.now - c.loop-at.at) (drop c.loop-at.at c.args.text.now)) = omega (arith, w.len-is, fits.1) in
      let whole = length_rest c.args.text.now c.loop-at.at in
      let taken = length_taken c.match-piece_at.len _ within in
      let of_len : ℕ → Token = λ n. record { kind = w.in-Token.kind; line = c.loop-at.spot.line; from = c.loop-at.at; to = c.loop-at.at + n } in
      let t : Token = of_len c.match-piece_at.len in
      let pushed : c.match-piece_at.tokens.items ≡ c.loop-at.tokens.items ++ t ∷ [] =
      ap (λ v. v.items) w.tokens-is ∙ (w.push.ensures.items
      ∙ (ap (λ b. if b then c.loop-at.tokens.items ++ of_len w.in-Token.len ∷ [] else c.loop-at.tokens.items) (sym w.map_err.ensures.variant ∙ ap is_ok w.in_ok-map_err-in-Token.was)
      ∙ ap (λ n. c.loop-at.tokens.items ++ of_len n ∷ []) (sym w.len-is))) in
      record {
        in_range = omega (arith, within, whole, c.loop-at-test.true);
        all = subst (λ (ts : List Token). with_all ts (tokens_from c.past-spot.result (c.loop-at.at + c.match-piece_at.len) c.match-piece_at.closes 0 (drop (c.loop-at.at + c.match-piece_at.len) c.args.text.now)) ≡ tokens_of c.args.text.now) (sym pushed)
            (at_token c.args.text.now _ c.loop-at.tokens.items c.loop-at.spot c.past-spot.result c.loop-at.at c.match-piece_at.len c.loop-at.closes c.match-piece_at.closes w.in-Token.kind _
            (rest_is c.args.text.now c.loop-at.at) c.loop-at-test.true (ap (token w.in-Token.kind) w.len-is ∙ w.in-Token.ensures.value) long
            c.past-spot.ensures.after (w.closes-is ∙ w.closes_value-closes.ensures) c.loop-at.invariant.all);
        line = omega (arith, c.past-spot.ensures.line, taken, c.loop-at.invariant.line);
        place = omega (arith, c.past-spot.ensures.place, taken, c.loop-at.invariant.place);
        counted = c.past-spot.ensures.counted;
        in_order = subst (λ (ts : List Token). InOrder 0 (c.loop-at.at + c.match-piece_at.len) ts) (sym pushed)
            (in_order_one c.loop-at.tokens.items 0 c.loop-at.at (c.loop-at.at + c.match-piece_at.len) t c.loop-at.invariant.in_order
            (omega arith) (omega (arith, long)) (omega arith));
      }
  | in-Gap w ↦
      let fits = w.in-Gap.ensures.fits in
      let long : 0 < c.match-piece_at.len = omega (arith, w.len-is, fits.0) in
      let within : c.match-piece_at.len ≤ length (take (length c.args.text.now - c.loop-at.at) (drop c.loop-at.at c.args.text.now)) = omega (arith, w.len-is, fits.1) in
      let whole = length_rest c.args.text.now c.loop-at.at in
      let taken = length_taken c.match-piece_at.len _ within in
      record {
        in_range = omega (arith, within, whole, c.loop-at-test.true);
        all = rw w.tokens-is (rw w.closes-is (at_gap c.args.text.now _ c.loop-at.tokens.items c.loop-at.spot c.past-spot.result c.loop-at.at c.match-piece_at.len c.loop-at.closes _
            (rest_is c.args.text.now c.loop-at.at) c.loop-at-test.true (ap Gap w.len-is ∙ w.in-Gap.ensures.value) long
            c.past-spot.ensures.after c.loop-at.invariant.all));
        line = omega (arith, c.past-spot.ensures.line, taken, c.loop-at.invariant.line);
        place = omega (arith, c.past-spot.ensures.place, taken, c.loop-at.invariant.place);
        counted = c.past-spot.ensures.counted;
        in_order = rw w.tokens-is (in_order_more c.loop-at.tokens.items 0 c.loop-at.at _ c.loop-at.invariant.in_order (omega arith));
      }
]

pub returns-clause-tokens : goal.returns-clause-tokens
returns-clause-tokens c = at_end c.args.text.now c.loop-at.tokens.items c.loop-at.spot c.loop-at.at c.loop-at.closes _ c.loop-at-test.false c.loop-at.invariant.all
