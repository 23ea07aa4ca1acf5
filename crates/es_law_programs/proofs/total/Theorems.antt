-- Lowering is total: what has the shape of a program over the keys of tokens has a typed tree.
use Rattle.std.specs.Prelude.{List, length, true, ◌||◌, Option, Some, None}
use Rattle.std.proofs.Common.{◌≡◌, ℕ, refl, subst, sym, inl, inr}
use Rattle.es_token.specs.declared.token.Token.{Token}
use Rattle.grammar_theory.specs.Tells.{implies}
use Rattle.grammar_theory.proofs.FreeLemmas.{holds_then}
use Rattle.grammar_theory.specs.declared.error.Lang.{Lang}
use Rattle.grammar_theory.specs.Languages.{typed}
use Rattle.grammar_theory.specs.declared.error.Mode.{Mode}
use Rattle.grammar_theory.specs.declared.error.Mode.TheVariants as mode
use Rattle.grammar_theory.specs.Key.{seen, keys_of}
use Rattle.grammar_theory.specs.Plain.{Plain}
use Rattle.grammar_theory.specs.Productions.{Predict, by_lookahead, greedy, by_predicate}
use Rattle.grammar_theory.specs.Fits.{free, chosen, Present, Shape, most_nodes}
use Rattle.grammar_theory.proofs.Progress.{both_hold}
use Rattle.es_ast.specs.declared.ast.Program.{Program}
use Rattle.es_grammar.specs.declared.rows.Row.{Row}
use Rattle.es_grammar.specs.declared.rows.Row.TheVariants.{DeclaredRow, TypesRow}
use Rattle.es_grammar.specs.declared.rows.NodeKind.{NodeKind}
use Rattle.es_grammar.specs.Table.{rule}
use Rattle.es_grammar.specs.Conditions.{leans, program_row, IsProgram}
use Rattle.es_grammar.proofs.Theorems.{free_is_chosen}
use Rattle.es_grammar.specs.cst.Slim.{tree_of}
use Rattle.es_grammar.proofs.Languages.{holds_in}
use Rattle.es_lowering.specs.Lowering.{value_of}
use Rattle.es_lowering.specs.derives.Derives.{program_in, Derives}
use Rattle.es_law_programs.proofs.total.Uses.{Use, as_program, IsThere, same_use, same_uses}
use Rattle.es_law_programs.proofs.total.Needs.{told}
use Rattle.es_law_programs.proofs.total.Sound.{either_holds}
use Rattle.es_law_programs.proofs.total.Rows.{first_use, second_use, yields, shut}
use Rattle.es_law_programs.proofs.total.Table.{needs}
use Rattle.es_law_programs.proofs.total.Rules.{rule_ok, row_has}
use Rattle.es_law_programs.proofs.total.Build.{built}
use Rattle.es_law_programs.proofs.total.Once.{row_shuts}
use Rattle.es_law_programs.proofs.total.RowClaims.{gives_first, gives_second}

first_ok : (l : Lang) (r : Row) → yields l r (first_use l r) ≡ true
    → rule_ok (yields l) needs (shut r) (rule l r) (first_use l r) ≡ true
first_ok l r =
    holds_then (yields l r (first_use l r)) (rule_ok (yields l) needs (shut r) (rule l r) (first_use l r))
    (holds_in (λ m. implies (yields m r (first_use m r)) (rule_ok (yields m) needs (shut r) (rule m r) (first_use m r)))
    (gives_first r) l)

second_ok : (l : Lang) (r : Row) → yields l r (second_use l r) ≡ true
    → rule_ok (yields l) needs (shut r) (rule l r) (second_use l r) ≡ true
second_ok l r =
    holds_then (yields l r (second_use l r)) (rule_ok (yields l) needs (shut r) (rule l r) (second_use l r))
    (holds_in (λ m. implies (yields m r (second_use m r)) (rule_ok (yields m) needs (shut r) (rule m r) (second_use m r)))
    (gives_second r) l)

-- what a row gives is its first or its second use
yields_one : (l : Lang) (r : Row) (u : Use) → yields l r u ≡ true
    → same_use u (first_use l r) || same_use u (second_use l r) ≡ true
yields_one l (DeclaredRow c) u e =
    (both_hold (typed l) (same_use u (first_use l (DeclaredRow c)) || same_use u (second_use l (DeclaredRow c))) e).1
yields_one l (TypesRow r) u e =
    (both_hold (typed l) (same_use u (first_use l (TypesRow r)) || same_use u (second_use l (TypesRow r))) e).1
yields_one l r u e = e

claimed : (l : Lang) (r : Row) (u : Use) → yields l r u ≡ true → rule_ok (yields l) needs (shut r) (rule l r) u ≡ true
claimed l r u e =
    elim (either_holds (same_use u (first_use l r)) (same_use u (second_use l r)) (yields_one l r u e)) [
      | inl one ↦ moved (first_use l r) (same_uses u (first_use l r) one) (first_ok l r)
      | inr other ↦ moved (second_use l r) (same_uses u (second_use l r) other) (second_ok l r)
    ]
  where
    moved : (v : Use) → u ≡ v → (yields l r v ≡ true → rule_ok (yields l) needs (shut r) (rule l r) v ≡ true)
        → rule_ok (yields l) needs (shut r) (rule l r) u ≡ true
    moved v same ok =
        let P : Use → Type 0 = λ w. yields l r w ≡ true in
        let Q : Use → Type 0 = λ w. rule_ok (yields l) needs (shut r) (rule l r) w ≡ true in
        subst Q (sym same) (ok (subst P same e))

program_yields : (l : Lang) (m : Mode) → yields l (program_row m) as_program ≡ true
program_yields l mode.Module = refl
program_yields l mode.Script = refl

-- read with its tests obeyed, a turn is told by its test
asks : (ts : List Token) (c : Predict) (at : ℕ) → Present chosen c (keys_of ts) at
    → told c (seen (keys_of ts) at) ≡ true
asks ts (by_lookahead t) at e = e
asks ts (greedy t) at e = e
asks ts (by_predicate g) at e = refl

-- what has the shape of a program may be read as one
program_there : (l : Lang) (m : Mode) (x : List ℕ) (ts : List Token) (p : Plain NodeKind)
    → Shape leans free (rule l) (program_row m) (keys_of ts) p → IsThere (program_in (value_of x ts (tree_of p)))
unfolding Shape
program_there l m x ts p shaped =
    row_has (yields l) needs x ts (built x ts) chosen (asks ts) (rule l) shut (row_shuts l) (claimed l) most_nodes
    (program_row m)
    as_program (program_yields l m) p 0 (length (keys_of ts)) (free_is_chosen l m (keys_of ts) p shaped).0

there_is : {A : Type 0} (o : Option A) → IsThere o → (a : A) × (o ≡ Some a)
there_is (Some a) h = (a, refl)
there_is None h = absurd h

-- lowering is total: each plain tree that has the shape of a program over the keys of tokens, whatever their text, is a
-- typed tree
pub lowers : (l : Lang) (m : Mode) (x : List ℕ) (ts : List Token) (p : Plain NodeKind)
    → Shape leans free (rule l) (program_row m) (keys_of ts) p
    → (tree : Program) × (program_in (value_of x ts (tree_of p)) ≡ Some tree)
lowers l m x ts p shaped =
    there_is (program_in (value_of x ts (tree_of p))) (program_there l m x ts p shaped)

-- a plain tree of a program derives a typed tree
pub derives : (l : Lang) (m : Mode) (x : List ℕ) (ts : List Token) (p : Plain NodeKind) → IsProgram l m (keys_of ts) p
    → (tree : Program) × Derives l m x ts tree
derives l m x ts p program =
    let typed = lowers l m x ts p program.shaped in
    (typed.0, record { plain = p; program = program; lowered = typed.1 })

-- so tokens that derive nothing have no plain tree of a program
pub no_plain : (l : Lang) (m : Mode) (x : List ℕ) (ts : List Token) → ((tree : Program) → Derives l m x ts tree → ⊥)
    → (p : Plain NodeKind) → IsProgram l m (keys_of ts) p → ⊥
no_plain l m x ts none p program =
    let typed = derives l m x ts p program in
    none typed.0 typed.1
