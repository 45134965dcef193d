-- What stays as it was where no call opens anything, form by form.
use Rattle.std.proofs.Common.{◌≡◌, ℕ, List, Bool, true, false, refl, subst}
use Rattle.std.proofs.lemmas.Bool.{and_parts, true≢false}
use Rattle.std.specs.Prelude.{◌&&◌, not}
use Rattle.tall_grammar.specs.Trees.{Tree, tree, Args}
use Rattle.tall_grammar.specs.Trees as trees
use Rattle.tall_grammar.specs.declared.expressions.Infix.{Infix}
use Rattle.tall_local.specs.StateLaws.{is_name_in, calls_none, calls_none_in}
use Rattle.tall_evaluate.specs.Senses.{Senses, Laws}

is_not : (b : Bool) → not b ≡ true → b ≡ false
is_not false h = refl
is_not true h = cc

module _ {L G W E F V S I : Type 0} (m : Senses L G W E F V S I) (laws : Laws m) where
  pub joined_still : (x : Tree) (n l : ℕ) (op : Infix) (e f : Tree) (s t u z : L) → x ≡ tree n l (trees.joined op e f)
      → (calls_none m.opens e ≡ true → m.still s t) → (calls_none m.opens f ≡ true → m.still t u) → m.still u z → calls_none m.opens x ≡ true → m.still s z
  joined_still x n l op e f s t u z is h k j none =
      let p = and_parts (calls_none m.opens e) (calls_none m.opens f) (subst (λ x. calls_none m.opens x ≡ true) is none) in
      laws.still_on.both s u z (laws.still_on.both s t u (h p.0) (k p.1)) j

  pub function_still : (x : Tree) (n l : ℕ) (e : Tree) (args : Args) (b : Bool) (s t : L) → x ≡ tree n l (trees.call e args)
      → (is_name_in m.opens e ≡ false → b ≡ false) → (b ≡ false → calls_none_in m.opens args ≡ true → m.still s t) → calls_none m.opens x ≡ true → m.still s t
  function_still x n l e args b s t is h k none =
      let p = and_parts (not (is_name_in m.opens e)) (calls_none m.opens e && calls_none_in m.opens args) (subst (λ x. calls_none m.opens x ≡ true) is none) in
      k (h (is_not (is_name_in m.opens e) p.0)) ((and_parts (calls_none m.opens e) (calls_none_in m.opens args) p.1).1)

  pub index_still : (x : Tree) (n l : ℕ) (e : Tree) (args : Args) (s t u : L) → x ≡ tree n l (trees.call e args)
      → (calls_none m.opens e ≡ true → m.still s t) → (calls_none_in m.opens args ≡ true → m.still t u) → calls_none m.opens x ≡ true → m.still s u
  index_still x n l e args s t u is h k none =
      let p = and_parts (not (is_name_in m.opens e)) (calls_none m.opens e && calls_none_in m.opens args) (subst (λ x. calls_none m.opens x ≡ true) is none) in
      let q = and_parts (calls_none m.opens e) (calls_none_in m.opens args) p.1 in
      laws.still_on.both s t u (h q.0) (k q.1)
