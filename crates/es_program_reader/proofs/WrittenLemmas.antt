-- A row that a writer left is sound where each of its entries has a simple target, or none.
use Rattle.std.specs.Prelude.{List, [], ◌∷◌, ◌++◌, Bool, true, false, ◌&&◌}
use Rattle.std.proofs.Common.{◌≡◌, ℕ, length, take, min, refl, sym, ap, ◌∙◌, arith, append_assoc}
use Rattle.std.proofs.Math.Seq.{take-append_seam}
use Rattle.std.proofs.lemmas.List.{append-nil, take_min}
use Rattle.es_grammar.specs.declared.rows.NodeKind.{NodeKind}
use Rattle.es_grammar.specs.declared.cst.tree.Cst.{Cst, roll-Cst, out-Cst, roll-out-Cst}
use Rattle.es_grammar.specs.declared.cst.tree.Cst.TheVariants as vCst
use Rattle.es_grammar.specs.declared.cst.tree.Cst.TheOpen.{Cst-F}
use Rattle.es_syntax.specs.declared.entry.Entry.{Entry}
use Rattle.es_syntax.specs.declared.entry.What.{What}
use Rattle.es_syntax.specs.declared.entry.What.TheVariants as vWhat
use Rattle.es_syntax.specs.Trees.{Kept, first_tree, turn_parts, trees_in, tree_by, trees}
use Rattle.es_syntax.specs.Written.{headed}
use Rattle.es_syntax.specs.Forest.{Forest, none, node, entries_of, kept_of}
use Rattle.es_syntax.proofs.Forests.{trees_forest}
use Rattle.es_program_reader.specs.Sound.{first_is, is_simple, is_sound, are_sound}
use Rattle.es_program_reader.specs.Rows.{kept_in, turns_sound, leant_sound, holds_target, each_holds_target}
use Rattle.es_program_reader.specs.Derived.{IsWritten}
use Rattle.es_program_reader.proofs.Equations.{sound_leaf, sound_node, sound_role, sound_parts}
use Rattle.es_program_reader.proofs.RowLemmas.{trees_kept, are_none, are_some, sound_leant}

-- ---- entry by entry
pub next_none : (es : List Entry) → length es ≡ 0 → each_holds_target es ≡ true
next_none [] e = refl
next_none (y ∷ es) e = absurd (omega arith)

pub next_some : (y : Entry) (es : List Entry)
    → each_holds_target (y ∷ es)
    ≡ (holds_target y.what (trees_in (kept_in (take (min y.size (length es)) es))) && each_holds_target es)
next_some y es = rw (take_min) refl

-- ---- both of two answers
both : (a b : Bool) → (a && b) ≡ true → (a ≡ true) × (b ≡ true)
both true true e = (refl, refl)
both true false e = absurd (let bad : ⊥ = cc in bad)
both false b e = absurd (let bad : ⊥ = cc in bad)

join : (a b : Bool) → a ≡ true → b ≡ true → (a && b) ≡ true
join true true e f = refl
join true false e f = absurd (let bad : ⊥ = cc in bad)
join false b e f = absurd (let bad : ⊥ = cc in bad)

-- ---- a tree, from its parts
some_sound : (t : Cst) (ts : List Cst) → are_sound (t ∷ ts) ≡ true → (is_sound t ≡ true) × (are_sound ts ≡ true)
some_sound t ts e = both (is_sound t) (are_sound ts) (sym (are_some t ts) ∙ e)

layer_sound : (f : Cst-F Cst) → is_sound (roll-Cst f) ≡ true → are_sound (turn_parts f) ≡ true
layer_sound (Cst-F.Leaf at) e = are_none
layer_sound (Cst-F.Node label from to ts) e = are_none
layer_sound (Cst-F.Role label t) e = are_none
layer_sound (Cst-F.Parts ts) e = sym (sound_parts ts) ∙ (ap is_sound (sym (vCst.rolls-Parts ts)) ∙ e)

turn_sound : (t : Cst) → is_sound t ≡ true → are_sound (turn_parts (out-Cst t)) ≡ true
turn_sound t e = layer_sound (out-Cst t) (ap is_sound (roll-out-Cst t) ∙ e)

turns_all : (ts : List Cst) → are_sound ts ≡ true → turns_sound ts ≡ true
turns_all [] e = refl
turns_all (t ∷ ts) e =
    let p = some_sound t ts e in
    join (are_sound (turn_parts (out-Cst t))) (turns_sound ts) (turn_sound t p.0) (turns_all ts p.1)

leant_all : (ts : List Cst) → are_sound ts ≡ true → leant_sound ts ≡ true
leant_all [] e = refl
leant_all (t ∷ []) e = refl
leant_all (t ∷ u ∷ us) e =
    let p = some_sound t (u ∷ us) e in
    join (is_sound t) (turns_sound (u ∷ us)) p.0 (turns_all (u ∷ us) p.1)

role_sound : (label : NodeKind) (ts : List Cst) → first_is is_simple ts ≡ true → are_sound ts ≡ true
    → is_sound (vCst.Role label (first_tree ts)) ≡ true
role_sound label [] e s = absurd (let bad : ⊥ = cc in bad)
role_sound label (t ∷ ts) e s =
    sound_role label t ∙ join (is_simple t) (is_sound t) e (some_sound t ts s).0

tree_sound : (w : What) (from to : ℕ) (ks : List Kept) → holds_target w (trees_in ks) ≡ true
    → are_sound (trees_in ks) ≡ true → is_sound (tree_by w from to ks) ≡ true
tree_sound vWhat.Leaf from to ks e s = sound_leaf from
tree_sound (vWhat.Node label) from to ks e s =
    sound_node label from to (trees_in ks)
    ∙ join (holds_target (vWhat.Node label) (trees_in ks)) (are_sound (trees_in ks)) e s
tree_sound (vWhat.Role label) from to ks e s = role_sound label (trees_in ks) e s
tree_sound vWhat.Parts from to ks e s = sound_parts (trees_in ks) ∙ s
tree_sound (vWhat.Lean lean) from to ks e s = sound_leant lean from ks ∙ leant_all (trees_in ks) s

-- ---- trees side by side, with others behind them
parts_kept : (s : Forest) → trees_in (kept_in (entries_of s)) ≡ trees_in (kept_of s)
parts_kept s = sym (trees_kept (entries_of s)) ∙ trees_forest s

headed_holds : (w : What) (from to : ℕ) (parts : Forest) (es : List Entry)
    → each_holds_target (headed w from to (entries_of parts) ++ es) ≡ true
    → (holds_target w (trees_in (kept_of parts)) ≡ true) × (each_holds_target (entries_of parts ++ es) ≡ true)
headed_holds w from to parts es e =
    let ps = take (length (entries_of parts)) (entries_of parts ++ es) in
    let p = both (holds_target w (trees_in (kept_in ps))) (each_holds_target (entries_of parts ++ es)) e in (
      sym (ap (λ us. holds_target w (trees_in (kept_in us))) (take-append_seam (entries_of parts) es)
          ∙ ap (holds_target w) (parts_kept parts)) ∙ p.0,
      p.1,
    )

forest_sound : (s : Forest) (es : List Entry) → each_holds_target (entries_of s ++ es) ≡ true
    → (are_sound (trees_in (kept_of s)) ≡ true) × (each_holds_target es ≡ true)
unfolding entries_of kept_of
forest_sound none es e = (are_none, e)
forest_sound (node w from to parts rest) es e =
    let head = headed w from to (entries_of parts) in
    let p = headed_holds w from to parts (entries_of rest ++ es)
    (ap each_holds_target (sym (append_assoc head (entries_of rest) es)) ∙ e) in
    let q = forest_sound parts (entries_of rest ++ es) p.1 in
    let r = forest_sound rest es q.1 in (
      are_some (tree_by w from to (kept_of parts)) (trees_in (kept_of rest))
          ∙ join (is_sound (tree_by w from to (kept_of parts))) (are_sound (trees_in (kept_of rest)))
          (tree_sound w from to (kept_of parts) p.0 q.0) r.0,
      r.1,
    )

pub written_sound : (es : List Entry) → IsWritten es → each_holds_target es ≡ true → are_sound (trees es) ≡ true
written_sound es written e =
    let s = written.forest in
    ap (λ us. are_sound (trees us)) written.row
    ∙ (ap are_sound (trees_forest s)
    ∙ (forest_sound s [] (ap each_holds_target (append-nil (entries_of s) ∙ sym written.row) ∙ e)).0)
