-- Keys that have a tree both as a script and as a module have the same parts in both.
use Rattle.std.specs.Prelude.{List, Bool, true, false, ◌⊎◌}
use Rattle.std.proofs.Common.{◌≡◌, ℕ, zero, suc, length, sym, ap, subst, ◌∙◌, inl, inr}
use Rattle.es_token.specs.declared.token.TokenKind.TheVariants as k
use Rattle.grammar_theory.specs.declared.error.Lang.{Lang}
use Rattle.grammar_theory.specs.declared.error.Mode.TheVariants as mode
use Rattle.grammar_theory.specs.Key.{Key, seen, is, is_token}
use Rattle.grammar_theory.specs.Productions.{by_lookahead, greedy, as_raw, done, tok, row, many}
use Rattle.grammar_theory.specs.Plain.{Plain, node, leaf, nil, cons}
use Rattle.grammar_theory.specs.Fits.{free, most_nodes, Present, Absent, Turns, Fits, Under, Shape}
use Rattle.grammar_theory.proofs.OutLemmas.{clash}
use Rattle.es_grammar.specs.types.Words.{only}
use Rattle.es_grammar.specs.declared.rows.Context.{Context}
use Rattle.es_grammar.specs.declared.rows.Row.{Row}
use Rattle.es_grammar.specs.declared.rows.Row.TheVariants.{ItemRow, StatementRow}
use Rattle.es_grammar.specs.declared.rows.NodeKind.{NodeKind}
use Rattle.es_grammar.specs.declared.rows.NodeKind.TheVariants.{Module, Script}
use Rattle.es_grammar.specs.Rows.{in_module, in_script}
use Rattle.es_grammar.specs.Items.{item, shebang_in, module_, script}
use Rattle.es_grammar.specs.Table.{rule}
use Rattle.es_grammar.specs.Conditions.{IsProgram}
use Rattle.es_law_programs.specs.both_modes.Both.{both}
use Rattle.es_law_programs.proofs.both_modes.Carries.{turns_carry}
use Rattle.es_law_programs.proofs.both_modes.Rows.{in_both}
use Rattle.es_law_programs.proofs.both_modes.Imports.{statement_opens_none}
use Rattle.es_law_programs.proofs.both_modes.Once.{items_once}

-- a statement is an item
statement_is_item : (l : Lang) (K : List Key) (room : ℕ) (c : Context) (p : Plain NodeKind) (from to : ℕ)
    → Under free K (rule l) room (StatementRow c) p from to → Under free K (rule l) room (ItemRow c) p from to
unfolding Under rule item
statement_is_item l K zero c p from to under = absurd under
statement_is_item l K (suc room) c p from to under =
    inr (statement_opens_none l K (suc room) c p from to under, inr (tt, under))

module _ (l : Lang) (K : List Key) (room : ℕ) where
  abbrev Below : Row → Plain NodeKind → ℕ → ℕ → Type 0
  Below = Under free K (rule l) room

  -- one item, in a place for both
  abbrev IsTurn : Plain NodeKind → ℕ → ℕ → Type 0
  IsTurn = Fits free K Below (row (ItemRow (both in_module)) done)

  of_script : (q : Plain NodeKind) (from mid : ℕ) → Fits free K Below (row (StatementRow in_script) done) q from mid
      → IsTurn q from mid
  of_script q from mid fit = (
    fit.0,
    fit.1,
    fit.2,
    fit.3,
    statement_is_item l K room (both in_script) fit.0 from fit.2
        (in_both l K room (StatementRow in_script) fit.0 from fit.2 fit.4),
    fit.5,
  )

  of_module : (q : Plain NodeKind) (from mid : ℕ) → Fits free K Below (row (ItemRow in_module) done) q from mid
      → IsTurn q from mid
  of_module q from mid fit =
      (fit.0, fit.1, fit.2, fit.3, in_both l K room (ItemRow in_module) fit.0 from fit.2 fit.4, fit.5)

  -- the first line of a program, or none
  abbrev FirstLine : Plain NodeKind → ℕ → ℕ → Type 0
  FirstLine q from mid =
      (Present free (greedy (is k.Shebang)) K from
      × Fits free K Below (tok as_raw (only k.Shebang) done) q from mid)
      ⊎ (Absent free (greedy (is k.Shebang)) K from × (q ≡ nil) × (from ≡ mid))

  is_and_not : (b : Bool) {A : Type 0} → b ≡ true → b ≡ false → A
  is_and_not true e h = clash (sym h)
  is_and_not false e h = clash e

  first_once : (q p : Plain NodeKind) (from a b : ℕ) → FirstLine q from a → FirstLine p from b → (q ≡ p) × (a ≡ b)
  first_once q p from a b (inl one) (inl other) = (
    one.1.1 ∙ ap (cons (leaf as_raw from)) (one.1.3.0 ∙ sym other.1.3.0) ∙ sym other.1.1,
    sym one.1.3.1 ∙ other.1.3.1,
  )
  first_once q p from a b (inl one) (inr other) = is_and_not (is k.Shebang (seen K from)) one.1.2 other.0
  first_once q p from a b (inr one) (inl other) = is_and_not (is k.Shebang (seen K from)) other.1.2 one.0
  first_once q p from a b (inr one) (inr other) = (one.1 ∙ sym other.1, sym one.2 ∙ other.2)

  -- the parts of a script, and those of a module
  abbrev PartsBy : Row → Plain NodeKind → Type 0
  PartsBy r ps = Fits free K Below (shebang_in (many (by_lookahead is_token) (row r done) done)) ps 0 (length K)

  parts_same : (ps qs : Plain NodeKind) → PartsBy (StatementRow in_script) ps → PartsBy (ItemRow in_module) qs → ps ≡ qs
  unfolding shebang_in
  parts_same ps qs one other =
      let line = first_once one.0 other.0 0 one.2 other.2 one.4 other.4 in
      let statements : Turns free K (by_lookahead is_token) IsTurn one.5.0 one.2 (length K) =
      subst (λ (at : ℕ). Turns free K (by_lookahead is_token) IsTurn one.5.0 one.2 at) one.5.5.1
      (turns_carry K (by_lookahead is_token) (Fits free K Below (row (StatementRow in_script) done)) IsTurn of_script
      one.5.0 one.2 one.5.2 one.5.4) in
      let items : Turns free K (by_lookahead is_token) IsTurn other.5.0 other.2 (length K) =
      subst (λ (at : ℕ). Turns free K (by_lookahead is_token) IsTurn other.5.0 other.2 at) other.5.5.1
      (turns_carry K (by_lookahead is_token) (Fits free K Below (row (ItemRow in_module) done)) IsTurn of_module
      other.5.0 other.2 other.5.2 other.5.4) in
      let here : Turns free K (by_lookahead is_token) IsTurn other.5.0 one.2 (length K) =
      subst (λ (from : ℕ). Turns free K (by_lookahead is_token) IsTurn other.5.0 from (length K)) (sym line.1) items in
      let same = items_once l K room (both in_module) (by_lookahead is_token) one.5.0 other.5.0 one.2 statements here in
      one.3
      ∙ ap (cons one.0)
      (one.5.3 ∙ ap (cons one.5.0) one.5.5.0 ∙ ap (λ (t : Plain NodeKind). cons t nil) same
      ∙ ap (cons other.5.0) (sym other.5.5.0)
      ∙ sym other.5.3)
      ∙ ap (λ (t : Plain NodeKind). cons t other.1) line.0 ∙ sym other.3

-- what is read as a script and as a module has the same parts in both
pub same_parts : (l : Lang) (K : List Key) (p q : Plain NodeKind) → IsProgram l mode.Script K p
    → IsProgram l mode.Module K q
    → (ps : Plain NodeKind) × (p ≡ node Script 0 (length K) ps) × (q ≡ node Module 0 (length K) ps)
unfolding Shape Under most_nodes rule script module_
same_parts l K p q as_script as_module =
    let one = as_script.shaped.0 in
    let other = as_module.shaped.0 in (
      one.0,
      one.1,
      other.1 ∙ ap (node Module 0 (length K)) (sym (parts_same l K 500 one.0 other.0 one.2 other.2)),
    )
