-- Nodes that lean left, over a first operand and turns.
use Rattle.std.specs.Prelude.{ℕ, ◌-◌, List, [], ◌∷◌, ◌++◌}
use Rattle.std.proofs.Common.{◌≡◌, refl, sym, ap, ◌∙◌, arith}
use Rattle.std.proofs.lemmas.List.{append-nil}
use Rattle.es_token.specs.declared.token.Token.{Token}
use Rattle.es_grammar.specs.declared.cst.tree.Cst.{Cst, out-Cst}
use Rattle.es_syntax.specs.declared.entry.Lean.{Lean}
use Rattle.es_syntax.specs.declared.entry.Lean.TheVariants as vLean
use Rattle.es_syntax.specs.Held.{label_of}
use Rattle.es_syntax.specs.Trees.{Kept, turn_parts, leaning_tree, leaned_tree, leant_tree}
use Rattle.es_printer.specs.declared.style.Style.{Style}
use Rattle.es_printer.specs.declared.style.Style.TheVariants.{Operator}
use Rattle.es_printer.specs.Table.{style, ends}
use Rattle.es_printer.specs.Sheet.{Sheet, put, before, behind, is_item, up_to, tokens_from, node, shown}
use Rattle.es_printer.specs.Rows.{all, last_of, turned, leant, leaning}
use Rattle.es_printer.proofs.Equations.{shown_node, shown_parts}

minus_self : (n : ℕ) → n - n ≡ 0
minus_self n = omega arith

put_none : (s : Sheet) → put [] s ≡ s
put_none s = ap (λ ps. record { pieces = ps; next = s.next }) (append-nil s.pieces)

-- a node that leans left is an operator
style_lean : (lean : Lean) → style (label_of lean) ≡ Operator
unfolding style
style_lean vLean.Binary = refl
style_lean vLean.TypedBinary = refl

module _ (ts : List Token) where
  -- nothing is printed around an operator that is the operand of another
  inner_before : (from : ℕ) (s : Sheet) → put (before Operator Operator from) s ≡ s
  unfolding before
  inner_before from s = put_none s

  inner_behind : (lean : Lean) (to : ℕ) (s : Sheet) → put (behind ts Operator (label_of lean) to) s ≡ s
  unfolding behind is_item ends style
  inner_behind vLean.Binary to s = put_none s
  inner_behind vLean.TypedBinary to s = put_none s

  -- it begins where the other does
  again : (from : ℕ) (s : Sheet) → s.next ≡ from → up_to ts Operator from s ≡ s
  unfolding up_to
  again from s e =
      ap (λ n. record { pieces = s.pieces ++ tokens_from ts Operator (n - s.next) s.next; next = n }) (sym e)
      ∙ ap (λ n. record { pieces = s.pieces ++ tokens_from ts Operator n s.next; next = s.next }) (minus_self s.next)
      ∙ put_none s

  -- what is printed around a node at `from`
  abbrev Around : Lean → ℕ → ℕ → (Sheet → Sheet) → Style → Sheet → Sheet
  Around lean from to f here s =
      put (behind ts here (label_of lean) to) (f (put (before here Operator from) (up_to ts here from s)))

  -- what is printed of a node that leans left, inside it
  abbrev Inside : Lean → ℕ → Cst → ℕ → (Sheet → Sheet) → Type 0
  Inside lean from t to f = (here : Style) (s : Sheet) → shown ts t here s ≡ Around lean from to f here s

  inside_one : (lean : Lean) (from : ℕ) (t : Cst) (u : Kept)
      → Inside lean from (leaning_tree lean from t u) u.0
      (λ s. up_to ts Operator u.0 (all ts (turn_parts (out-Cst u.1)) Operator (shown ts t Operator s)))
  unfolding node all
  inside_one lean from t u here s =
      shown_node ts (label_of lean) from u.0 (t ∷ turn_parts (out-Cst u.1)) here s
      ∙ ap (λ own. put (behind ts here (label_of lean) u.0) (up_to ts own u.0
      (all ts (t ∷ turn_parts (out-Cst u.1)) own (put (before here own from) (up_to ts here from s)))))
      (style_lean lean)

  begun : (here : Style) (from : ℕ) (s : Sheet) → (put (before here Operator from) (up_to ts here from s)).next ≡ from
  unfolding up_to
  begun here from s = refl

  inside_more : (lean : Lean) (from : ℕ) (t : Cst) (to : ℕ) (f : Sheet → Sheet) (u : Kept) → Inside lean from t to f
      → Inside lean from (leaning_tree lean from t u) u.0
      (λ s. up_to ts Operator u.0 (all ts (turn_parts (out-Cst u.1)) Operator (f s)))
  inside_more lean from t to f u is here s =
      let first = put (before here Operator from) (up_to ts here from s) in
      let grown = λ (x : Sheet). put (behind ts here (label_of lean) u.0) (up_to ts Operator u.0
      (all ts (turn_parts (out-Cst u.1)) Operator x)) in
      inside_one lean from t u here s
      ∙ ap grown (is Operator first
      ∙ inner_behind lean to (f (put (before Operator Operator from) (up_to ts Operator from first)))
      ∙ ap f (inner_before from (up_to ts Operator from first) ∙ again from first (begun here from s)))

  inside_all : (lean : Lean) (from : ℕ) (t : Cst) (to : ℕ) (f : Sheet → Sheet) (us : List Kept)
      → Inside lean from t to f
      → Inside lean from (leaned_tree lean from t us) (last_of to us) (λ s. turned ts us (f s))
  unfolding leaned_tree
  inside_all lean from t to f [] is here s = is here s
  inside_all lean from t to f (u ∷ us) is here s =
      inside_all lean from (leaning_tree lean from t u) u.0
      (λ x. up_to ts Operator u.0 (all ts (turn_parts (out-Cst u.1)) Operator (f x))) us
      (inside_more lean from t to f u is) here s

  pub shown_lean : (lean : Lean) (from : ℕ) (us : List Kept) (here : Style) (s : Sheet)
      → shown ts (leant_tree lean from us) here s ≡ leaning ts lean from us here s
  unfolding leaning leant all
  shown_lean lean from [] here s = shown_parts ts [] here s
  shown_lean lean from (u ∷ []) here s = shown_parts ts [] here s
  shown_lean lean from (t ∷ u ∷ us) here s =
      inside_all lean from (leaning_tree lean from t.1 u) u.0
      (λ x. up_to ts Operator u.0 (all ts (turn_parts (out-Cst u.1)) Operator (shown ts t.1 Operator x))) us
      (inside_one lean from t.1 u) here s

  -- a first operand, and turns
  pub leaning_leant : (lean : Lean) (from : ℕ) (us vs ws : List Kept) (t u : Kept) (here : Style) (s : Sheet)
      → us ≡ t ∷ vs → vs ≡ u ∷ ws → leaning ts lean from us here s ≡ leant ts lean from t.1 vs here s
  unfolding leaning
  leaning_leant lean from us vs ws t u here s is others =
      ap (λ xs. leaning ts lean from xs here s) (is ∙ ap (◌∷◌ t) others)
      ∙ ap (λ xs. leant ts lean from t.1 xs here s) (sym others)
