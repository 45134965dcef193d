-- Arguments, as far as they have come: what is done, before what the rest gives, is what all give.
use Rattle.std.proofs.Common.{◌≡◌, refl, sym, subst, ap, ◌∙◌, ℕ, ◌+◌, ◌<◌, List, [], ◌∷◌, ◌++◌, length, drop, map, get_or}
use Rattle.std.specs.Prelude.{Bool, true, false, Result, Ok, Err, Option, None, Some, IfOk, IfErr}
use Rattle.std.specs.Prelude.{◌&&◌}
use Rattle.std.proofs.lemmas.Bool.{and_parts, and_from}
use Rattle.std.proofs.lemmas.List.{append-nil, append_assoc}
use Rattle.tall_grammar.specs.declared.expressions.Arg.{Arg}
use Rattle.tall_grammar.specs.Trees.{Tree, tree, Args, no_args, value_arg, colon_arg}
use Rattle.tall_grammar.specs.Views.{arg_of, args_of}
use Rattle.tall_local.specs.Arguments.{Argument, colon}
use Rattle.tall_local.specs.Expressions.{Language, Valued, gives, stops, go_on, argument, handle_in, value, arguments}
use Rattle.tall_local.specs.Refusals.{Stop}
use Rattle.tall_local.specs.StateLaws.{state_after, calls_none, calls_none_in}
use Rattle.tall_local.proofs.StatesKept.{arguments_kept}
use Rattle.tall_evaluate.specs.Calls.{argument_value}
use Rattle.tall_evaluate.specs.Orders.{ArgsAreInOrder, last_number}
use Rattle.tall_evaluate.specs.declared.languages.Argument as code
use Rattle.tall_evaluate.specs.declared.languages.Argument.TheVariants as kind
use Rattle.tall_evaluate.specs.Senses.{Senses, Laws, Agrees, Does, IsFree, ArgumentFits, ArgumentsFit, argument_seen}
use Rattle.tall_evaluate.proofs.Sequences.{reached_on, free, no_failure, same_failure}

-- what is done, before what comes
abbrev pub behind : {V S : Type 0} → List (Argument V) → Valued (List (Argument V)) S → Valued (List (Argument V)) S
behind done v = go_on v (λ rest u. gives (done ++ rest) u)

behind_nothing : {V S : Type 0} (v : Valued (List (Argument V)) S) → v ≡ behind [] v
behind_nothing (gives vs s) = refl
behind_nothing (stops stop s) = refl

behind_one : {V S : Type 0} (done : List (Argument V)) (a : Argument V) (v : Valued (List (Argument V)) S)
    → behind done (go_on v (λ rest u. gives (a ∷ rest) u)) ≡ behind (done ++ a ∷ []) v
behind_one done a (gives vs s) = ap (λ xs. gives xs s) (sym (append_assoc done (a ∷ []) vs))
behind_one done a (stops stop s) = refl

map_more : {X Y : Type 0} (f : X → Y) (xs : List X) (x : X) → map f (xs ++ x ∷ []) ≡ map f xs ++ f x ∷ []
map_more f [] x = refl
map_more f (y ∷ ys) x = ap (λ zs. f y ∷ zs) (map_more f ys x)

-- the first of the arguments, and then the others
module _ {F V S : Type 0} (L : Language F V S) (takes : Bool) where
  one_first : (o : Option Tree) (os : List (Option Tree)) (s : S)
      → arguments L (args_of (o ∷ os)) takes s ≡ go_on (argument_value L takes o s) (λ a t. go_on (arguments L (args_of os) takes t) (λ rest u. gives (a ∷ rest) u))
  one_first (Some e) os s = refl
  one_first None os s = refl

-- ---- the order of numbers

module _ (R : ℕ → ℕ → Type 0) where
  order_first : (o : Option Tree) (os : List (Option Tree)) (n : ℕ) → ArgsAreInOrder R n (args_of (o ∷ os)) → ArgsAreInOrder R n (args_of (o ∷ []))
  order_first (Some e) os n h = (h.0, h.1, tt)
  order_first None os n h = tt

  order_rest : (o : Option Tree) (os : List (Option Tree)) (n : ℕ) → ArgsAreInOrder R n (args_of (o ∷ os)) → ArgsAreInOrder R (last_number n (args_of (o ∷ []))) (args_of os)
  order_rest (Some e) os n h = h.2
  order_rest None os n h = h

  pub first_in_order : (args : List Arg) (k n : ℕ) (x : Arg) → drop k args ≡ x ∷ drop (k + 1) args → ArgsAreInOrder R n (args_of (map arg_of (drop k args)))
      → ArgsAreInOrder R n (args_of (arg_of x ∷ []))
  first_in_order args k n x is h = order_first (arg_of x) (map arg_of (drop (k + 1) args)) n (subst (λ ys. ArgsAreInOrder R n (args_of (map arg_of ys))) is h)

last_rest : (o : Option Tree) (os : List (Option Tree)) (n : ℕ) → last_number n (args_of (o ∷ os)) ≡ last_number (last_number n (args_of (o ∷ []))) (args_of os)
last_rest (Some e) os n = refl
last_rest None os n = refl

-- ---- arguments that fit

module _ {L W : Type 0} (Fits : L → W → Type 0) where
  fits_kept : (s t : L) → ((w : W) → Fits s w → Fits t w) → (args : List (code.Argument W)) → ArgumentsFit (Fits s) args → ArgumentsFit (Fits t) args
  fits_kept s t k [] h = tt
  fits_kept s t k (kind.Given w ∷ args) h = (k w h.0, fits_kept s t k args h.1)
  fits_kept s t k (kind.Colon ∷ args) h = (tt, fits_kept s t k args h.1)
  fits_kept s t k (kind.Function name ∷ args) h = (tt, fits_kept s t k args h.1)

  fits_more : (t : L) (args : List (code.Argument W)) (a : code.Argument W) → ArgumentsFit (Fits t) args → ArgumentFits (Fits t) a → ArgumentsFit (Fits t) (args ++ a ∷ [])
  fits_more t [] a h k = (k, tt)
  fits_more t (b ∷ args) a h k = (h.0, fits_more t args a h.1 k)

-- ---- arguments that call none of some names

module _ (test : List ℕ → Bool) where
  none_first : (o : Option Tree) (os : List (Option Tree)) → calls_none_in test (args_of (o ∷ os)) ≡ true → calls_none_in test (args_of (o ∷ [])) ≡ true
  none_first (Some e) os h = and_from (calls_none test e) true ((and_parts (calls_none test e) (calls_none_in test (args_of os)) h).0) refl
  none_first None os h = refl

  none_rest : (o : Option Tree) (os : List (Option Tree)) → calls_none_in test (args_of (o ∷ os)) ≡ true → calls_none_in test (args_of os) ≡ true
  none_rest (Some e) os h = (and_parts (calls_none test e) (calls_none_in test (args_of os)) h).1
  none_rest None os h = h

-- ---- some arguments are done

module _ {L G W E F V S I : Type 0} (m : Senses L G W E F V S I) where
  pub record Going (args : List Arg) (takes : Bool) (after : ℕ) (s t : L) (done : List (code.Argument W)) (last : ℕ) (rest : List Arg) : Type 0 where
    pub later : m.later s t
    pub fits : ArgumentsFit (m.fits t) done
    pub given : (i : I) → m.holds i t → arguments (m.defined i) (args_of (map arg_of args)) takes (m.state i s)
        ≡ behind (map (argument_seen (m.shown i)) done) (arguments (m.defined i) (args_of (map arg_of rest)) takes (m.state i t))
    pub ready : m.done t last
    pub order : ArgsAreInOrder m.follows last (args_of (map arg_of rest))
    pub same : last_number after (args_of (map arg_of args)) ≡ last_number last (args_of (map arg_of rest))
    pub still : calls_none_in m.opens (args_of (map arg_of args)) ≡ true → m.still s t × (calls_none_in m.opens (args_of (map arg_of rest)) ≡ true)

  pub started : (laws : Laws m) (args : List Arg) (takes : Bool) (after : ℕ) (s : L) → m.done s after → ArgsAreInOrder m.follows after (args_of (map arg_of args))
      → Going args takes after s s [] after args
  started laws args takes after s h o = record {
    later = laws.same s;
    fits = tt;
    given = λ i holds. behind_nothing (arguments (m.defined i) (args_of (map arg_of args)) takes (m.state i s));
    ready = h;
    order = o;
    same = refl;
    still = λ none. (laws.still_on.nothing s, none);
  }

  -- what the first of the rest gives, or why it stops
  module _ (laws : Laws m) (args rest : List Arg) (takes : Bool) (after last : ℕ) (s t u : L) (done : List (code.Argument W)) (x : Arg)
      (h : Going args takes after s t done last (x ∷ rest)) where
    unfolded : (i : I) → m.holds i t → arguments (m.defined i) (args_of (map arg_of args)) takes (m.state i s)
        ≡ behind (map (argument_seen (m.shown i)) done) (go_on (argument_value (m.defined i) takes (arg_of x) (m.state i t))
        (λ a v. go_on (arguments (m.defined i) (args_of (map arg_of rest)) takes v) (λ more w. gives (a ∷ more) w)))
    unfolded i holds = h.given i holds ∙ ap (λ v. behind (map (argument_seen (m.shown i)) done) v) (one_first (m.defined i) takes (arg_of x) (map arg_of rest) (m.state i t))

    -- what the definitions leave, where the first of the rest leaves what may go on to it
    rest_on : (i : I) (z : S) → m.holds i t → m.reaches z (state_after (argument_value (m.defined i) takes (arg_of x) (m.state i t)))
        → m.reaches z (state_after (arguments (m.defined i) (args_of (map arg_of args)) takes (m.state i s)))
    rest_on i z holds first =
        subst (λ v. m.reaches z (state_after v)) (sym (unfolded i holds))
        (reached_on m.reaches laws.reaches_on z (go_on (argument_value (m.defined i) takes (arg_of x) (m.state i t))
        (λ a v. go_on (arguments (m.defined i) (args_of (map arg_of rest)) takes v) (λ more w. gives (a ∷ more) w)))
        (λ more u. gives (map (argument_seen (m.shown i)) done ++ more) u)
        (reached_on m.reaches laws.reaches_on z (argument_value (m.defined i) takes (arg_of x) (m.state i t))
        (λ a v. go_on (arguments (m.defined i) (args_of (map arg_of rest)) takes v) (λ more w. gives (a ∷ more) w)) first
        (λ a v. reached_on m.reaches laws.reaches_on v (arguments (m.defined i) (args_of (map arg_of rest)) takes v) (λ more w. gives (a ∷ more) w)
        (arguments_kept (m.defined i) m.reaches laws.reaches_on (laws.calls_reach i) (args_of (map arg_of rest)) takes v)
        (λ more w. laws.reaches_on.nothing w)))
        (λ more u. laws.reaches_on.nothing u))

    -- what was left as it was
    pub one_still : (calls_none_in m.opens (args_of (arg_of x ∷ [])) ≡ true → m.still t u) → calls_none_in m.opens (args_of (map arg_of args)) ≡ true → m.still s u
    one_still k none =
        let before = h.still none in
        laws.still_on.both s t u before.0 (k (none_first m.opens (arg_of x) (map arg_of rest) before.1))

    pub one_more : (a : code.Argument W) (done' : List (code.Argument W)) (last' : ℕ)
        → Does {X = code.Argument W} {Y = Argument V} m (λ s a. ArgumentFits (m.fits s) a) (λ i a. argument_seen (m.shown i) a) (λ i s. argument_value (m.defined i) takes (arg_of x) s) t u (Ok a)
        → m.done u (last_number last (args_of (arg_of x ∷ []))) → (calls_none_in m.opens (args_of (arg_of x ∷ [])) ≡ true → m.still t u) → done' ≡ done ++ a ∷ [] → last' ≡ last_number last (args_of (arg_of x ∷ []))
        → Going args takes after s u done' last' rest
    one_more a done' last' d r k e f = record {
      later = laws.both s t u h.later d.later;
      fits = subst (λ ys. ArgumentsFit (m.fits u) ys) (sym e)
          (fits_more m.fits u done a (fits_kept m.fits t u (λ w k. laws.fits_later t u w d.later k) done h.fits) d.fits);
      given = λ i holds.
          let f = argument_seen (m.shown i) in
          let seen : argument_value (m.defined i) takes (arg_of x) (m.state i t) ≡ gives (f a) (m.state i u) = d.agrees i holds in
          let rest_of : Valued (List (Argument V)) S = arguments (m.defined i) (args_of (map arg_of rest)) takes (m.state i u) in
          unfolded i (laws.holds_before t u i d.later holds)
          ∙ ap (λ v. behind (map f done) (go_on v (λ a v. go_on (arguments (m.defined i) (args_of (map arg_of rest)) takes v) (λ more w. gives (a ∷ more) w)))) seen
          ∙ behind_one (map f done) (f a) rest_of
          ∙ ap (λ ys. behind ys rest_of) (sym (ap (λ ys. map f ys) e ∙ map_more f done a));
      ready = subst (λ n. m.done u n) (sym f) r;
      order = subst (λ n. ArgsAreInOrder m.follows n (args_of (map arg_of rest))) (sym f) (order_rest m.follows (arg_of x) (map arg_of rest) last h.order);
      same = h.same ∙ last_rest (arg_of x) (map arg_of rest) last ∙ ap (λ n. last_number n (args_of (map arg_of rest))) (sym f);
      still = λ none. (one_still k none, none_rest m.opens (arg_of x) (map arg_of rest) (h.still none).1);
    }

    pub one_failed : {X : Type 0} (items : X → List (code.Argument W)) (e : E) (r : Result X E) → r ≡ Err e
        → Does {X = code.Argument W} {Y = Argument V} m (λ s a. ArgumentFits (m.fits s) a) (λ i a. argument_seen (m.shown i) a) (λ i s. argument_value (m.defined i) takes (arg_of x) s) t u (Err e)
        → Does {X = X} {Y = List (Argument V)} m (λ s a. ArgumentsFit (m.fits s) (items a)) (λ i a. map (argument_seen (m.shown i)) (items a)) (λ i s. arguments (m.defined i) (args_of (map arg_of args)) takes s) s u r
    one_failed {X} items e r is d = subst (λ r. Does {X = X} {Y = List (Argument V)} m (λ s a. ArgumentsFit (m.fits s) (items a)) (λ i a. map (argument_seen (m.shown i)) (items a)) (λ i s. arguments (m.defined i) (args_of (map arg_of args)) takes s) s u r) (sym is) (record {
      later = laws.both s t u h.later d.later;
      fits = tt;
      agrees = λ i holds stop named.
          unfolded i (laws.holds_before t u i d.later holds)
          ∙ ap (λ v. behind (map (argument_seen (m.shown i)) done) (go_on v (λ a v. go_on (arguments (m.defined i) (args_of (map arg_of rest)) takes v) (λ more w. gives (a ∷ more) w))))
          (d.agrees i holds stop named);
      blames = laws.blames_before s t u e h.later d.blames;
      unfinished = λ i holds other same none. rest_on i (m.state i u) (laws.holds_before t u i d.later holds) (d.unfinished i holds other (same_failure {X = X} {Y = code.Argument W} e other same) none);
    })

    pub no_room : {X : Type 0} (items : X → List (code.Argument W)) (a : code.Argument W) (e : E)
        → Does {X = code.Argument W} {Y = Argument V} m (λ s a. ArgumentFits (m.fits s) a) (λ i a. argument_seen (m.shown i) a) (λ i s. argument_value (m.defined i) takes (arg_of x) s) t u (Ok a)
        → IsFree m u e
        → Does {X = X} {Y = List (Argument V)} m (λ s a. ArgumentsFit (m.fits s) (items a)) (λ i a. map (argument_seen (m.shown i)) (items a)) (λ i s. arguments (m.defined i) (args_of (map arg_of args)) takes s) s u (Err e)
    no_room items a e d k =
        free m laws (λ s a. ArgumentsFit (m.fits s) (items a)) (λ i a. map (argument_seen (m.shown i)) (items a)) (λ i s. arguments (m.defined i) (args_of (map arg_of args)) takes s) s u e
        (laws.both s t u h.later d.later) k
        (λ i holds. rest_on i (m.state i u) (laws.holds_before t u i d.later holds) (subst (λ v. m.reaches (m.state i u) (state_after v))
        (sym (d.agrees i holds)) (laws.reaches_on.nothing (m.state i u))))

  pub ended : {X : Type 0} (items : X → List (code.Argument W)) (args : List Arg) (takes : Bool) (after last : ℕ) (s t : L) (x : X)
      → Going args takes after s t (items x) last []
      → Does {X = X} {Y = List (Argument V)} m (λ s a. ArgumentsFit (m.fits s) (items a)) (λ i a. map (argument_seen (m.shown i)) (items a)) (λ i s. arguments (m.defined i) (args_of (map arg_of args)) takes s) s t (Ok x)
  ended items args takes after last s t x h = record {
    later = h.later;
    fits = h.fits;
    agrees = λ i holds. h.given i holds ∙ ap (λ ys. gives ys (m.state i t)) (append-nil (map (argument_seen (m.shown i)) (items x)));
    blames = tt;
    unfinished = λ i holds e same none. absurd (no_failure x e same);
  }

  pub ended_still : (args : List Arg) (takes : Bool) (after last : ℕ) (s t : L) (done : List (code.Argument W))
      → Going args takes after s t done last [] → calls_none_in m.opens (args_of (map arg_of args)) ≡ true → m.still s t
  ended_still args takes after last s t done h none = (h.still none).0

  pub ended_last : (args : List Arg) (takes : Bool) (after last : ℕ) (s t : L) (done : List (code.Argument W))
      → Going args takes after s t done last [] → m.done t (last_number after (args_of (map arg_of args)))
  ended_last args takes after last s t done h = subst (λ n. m.done t n) (sym h.same) h.ready

-- another list of the same arguments that are left
pub going_at : {L G W E F V S I : Type 0} (m : Senses L G W E F V S I) (args : List Arg) (takes : Bool) (after : ℕ) (s t : L) (done : List (code.Argument W)) (last : ℕ) (rest rest' : List Arg)
    → rest ≡ rest' → Going m args takes after s t done last rest → Going m args takes after s t done last rest'
going_at m args takes after s t done last rest rest' e h = subst (λ ys. Going m args takes after s t done last ys) e h
