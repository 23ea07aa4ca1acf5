-- Tokens that are read both as a script and as a module have the same items in both.
use Rattle.std.specs.Prelude.{List, Option, Some, None, map}
use Rattle.std.proofs.Common.{◌≡◌, ℕ, length, refl, sym, ap, subst, ◌∙◌}
use Rattle.std.proofs.lemmas.Option.{same_Some}
use Rattle.base.specs.declared.range.Range.{Range}
use Rattle.es_token.specs.declared.token.Token.{Token}
use Rattle.grammar_theory.specs.declared.error.Lang.{Lang}
use Rattle.grammar_theory.specs.declared.error.Mode.TheVariants as mode
use Rattle.grammar_theory.specs.Key.{keys_of}
use Rattle.grammar_theory.specs.Plain.{Plain, node, made}
use Rattle.es_ast.specs.declared.ast.Program.{Program}
use Rattle.es_ast.specs.declared.ast.Program.TheVariants as vProgram
use Rattle.es_ast.specs.declared.ast.Module.{Module}
use Rattle.es_ast.specs.declared.ast.Script.{Script}
use Rattle.es_ast.specs.declared.ast.Stmt.{Stmt}
use Rattle.es_ast.specs.declared.ast.ModuleItem.{ModuleItem}
use Rattle.es_ast.specs.declared.ast.ModuleItem.TheVariants as vItem
use Rattle.es_grammar.specs.declared.rows.NodeKind.{NodeKind}
use Rattle.es_grammar.specs.declared.rows.NodeKind.TheVariants as l
use Rattle.es_grammar.specs.declared.cst.tree.Cst.{Cst}
use Rattle.es_grammar.specs.cst.Slim.{slim, parts_in, tree_of}
use Rattle.es_lowering.specs.Value.{Value, given, group, optional, turns, item_at, stmt_at}
use Rattle.es_lowering.specs.Texts.{span_of, shebang_at}
use Rattle.es_lowering.specs.Modules.{module_, script}
use Rattle.es_lowering.specs.Lowering.{build, program_of, value_of}
use Rattle.es_lowering.proofs.Equations.{value_node}
use Rattle.es_lowering.specs.derives.Derives.{program_in, Derives}
use Rattle.es_law_programs.proofs.both_modes.Theorems.{same_parts}
use Rattle.es_law_programs.proofs.both_items.Values.{values, Stmts, Items, part_group, items_of_stmts}

some_of : {A B : Type 0} (o : Option A) (f : A → Option B) (b : B) → given o f ≡ Some b
    → (a : A) × (o ≡ Some a) × (f a ≡ Some b)
some_of (Some a) f b e = (a, refl, e)
some_of None f b e = let bad : ⊥ = cc in absurd bad

module _ (x : List ℕ) (ts : List Token) where
  -- a script over these parts, and a module
  abbrev IsScriptOf : Value → Program → Type 0
  IsScriptOf v p = (s : Script) × (p ≡ vProgram.Script s) × (Stmts x ts (group v 1) ≡ Some s.body)

  abbrev IsModuleOf : Value → Program → Type 0
  IsModuleOf v p = (m : Module) × (p ≡ vProgram.Module m) × (Items x ts (group v 1) ≡ Some m.body)

  script_of : (r : Range) (v : Value) (p : Program) → script x ts r v ≡ Some p → IsScriptOf v p
  unfolding script
  script_of r v p e =
      let line = some_of (optional (shebang_at x ts) (group v 0)) _ p e in
      let body = some_of (Stmts x ts (group v 1)) _ p line.2 in
      (record { shebang = line.0; body = body.0; span = r }, sym (same_Some _ p body.2), body.1)

  module_of : (r : Range) (v : Value) (p : Program) → module_ x ts r v ≡ Some p → IsModuleOf v p
  unfolding module_
  module_of r v p e =
      let line = some_of (optional (shebang_at x ts) (group v 0)) _ p e in
      let body = some_of (Items x ts (group v 1)) _ p line.2 in
      (record { shebang = line.0; body = body.0; span = r }, sym (same_Some _ p body.2), body.1)

  -- ---- the node of a program
  abbrev parts_of : Plain NodeKind → Value
  parts_of ps = values x ts (parts_in (made slim ps))

  as_script : (from to : ℕ) (ps : Plain NodeKind) (p : Program)
      → program_in (value_of x ts (tree_of (node l.Script from to ps))) ≡ Some p → IsScriptOf (parts_of ps) p
  unfolding made build program_of
  as_script from to ps p e =
      script_of (span_of ts from to) (parts_of ps) p
      (sym (ap program_in (value_node x ts l.Script from to (parts_in (made slim ps)))) ∙ e)

  as_module : (from to : ℕ) (ps : Plain NodeKind) (p : Program)
      → program_in (value_of x ts (tree_of (node l.Module from to ps))) ≡ Some p → IsModuleOf (parts_of ps) p
  unfolding made build program_of
  as_module from to ps p e =
      module_of (span_of ts from to) (parts_of ps) p
      (sym (ap program_in (value_node x ts l.Module from to (parts_in (made slim ps)))) ∙ e)

  -- the items of the module are the statements of the script
  abbrev pub AreSame : Program → Program → Type 0
  AreSame p q =
      (s : Script) × (m : Module) × (p ≡ vProgram.Script s) × (q ≡ vProgram.Module m) × (m.body ≡ map vItem.Stmt s.body)

  same_bodies : (cs : List Cst) (p q : Program) → IsScriptOf (values x ts cs) p → IsModuleOf (values x ts cs) q
      → AreSame p q
  same_bodies cs p q one other =
      let body = part_group x ts cs 1 in
      let stmts : Stmts x ts (values x ts body.0) ≡ Some one.0.body = ap (Stmts x ts) (sym body.1) ∙ one.2 in
      let items : Items x ts (values x ts body.0) ≡ Some other.0.body = ap (Items x ts) (sym body.1) ∙ other.2 in (
        one.0,
        other.0,
        one.1,
        other.1,
        same_Some _ _ (sym items ∙ items_of_stmts x ts body.0 one.0.body stmts),
      )

  -- of the trees of both modes
  pub same_items : (lang : Lang) (p q : Program) → Derives lang mode.Script x ts p → Derives lang mode.Module x ts q
      → AreSame p q
  same_items lang p q one other =
      let parts = same_parts lang (keys_of ts) one.plain other.plain one.program other.program in
      same_bodies (parts_in (made slim parts.0)) p q
      (as_script 0 (length (keys_of ts)) parts.0 p
      (ap (λ (t : Plain NodeKind). program_in (value_of x ts (tree_of t))) (sym parts.1) ∙ one.lowered))
      (as_module 0 (length (keys_of ts)) parts.0 q
      (ap (λ (t : Plain NodeKind). program_in (value_of x ts (tree_of t))) (sym parts.2) ∙ other.lowered))
