-- What has an import or an export is no script.
use Rattle.std.specs.Prelude.{Bool, true, false, Option, Some, None, option_map, map}
use Rattle.std.specs.List.{list_any}
use Rattle.std.proofs.Common.{◌≡◌, ℕ, List, [], ◌∷◌, refl, sym, ap, ◌∙◌, inl, inr}
use Rattle.es_token.specs.declared.token.Token.{Token}
use Rattle.grammar_theory.specs.declared.error.Lang.{Lang}
use Rattle.grammar_theory.specs.declared.error.Mode.TheVariants as mode
use Rattle.es_ast.specs.declared.ast.Program.{Program}
use Rattle.es_ast.specs.declared.ast.Stmt.{Stmt}
use Rattle.es_ast.specs.declared.ast.Stmt.TheVariants as vStmt
use Rattle.es_ast.specs.declared.ast.ModuleDecl.{ModuleDecl}
use Rattle.es_ast.specs.declared.ast.ModuleItem.TheVariants as vItem
use Rattle.es_lowering.specs.derives.Derives.{Derives}
use Rattle.es_syntax.specs.Held.{valued}
use Rattle.es_syntax.specs.Roles.{stmt_in}
use Rattle.es_program.specs.items.Items.{is_some, decl_by, decl_in, the_item}
use Rattle.es_program.specs.items.Lent.{lent_item}
use Rattle.es_program.specs.declared.items.item.ModuleItemRef.{ModuleItemRef}
use Rattle.es_program.specs.declared.items.item.ModuleItemRef.TheVariants as vRef
use Rattle.es_program.proofs.items_lemmas.ReadLemmas.{out_decl, out_stmt}
use Rattle.es_law_programs.proofs.both_items.Theorems.{same_items}
use Rattle.source_reading.specs.Tree.{IsFirstTree}
use Rattle.deno_ast.specs.Refs.{items_of}
use Rattle.deno_ast.specs.Steps.{is_decl}

-- ---- items
stmt_is_none : (it : Stmt) → is_decl (vItem.Stmt it) ≡ false
stmt_is_none it = ap (λ w. is_some (decl_by w)) (out_stmt it)

stmts_have_none : (stmts : List Stmt) → list_any is_decl (map vItem.Stmt stmts) ≡ false
stmts_have_none [] = refl
stmts_have_none (it ∷ stmts) = rw (stmt_is_none it) (stmts_have_none stmts)

-- an item that is lent
decl_told : (o : Option ModuleDecl) → is_some o ≡ true → true ≡ is_decl (the_item (option_map vItem.ModuleDecl o))
decl_told (Some it) is = sym (ap (λ w. is_some (decl_by w)) (out_decl it))
decl_told None is = let bad : ⊥ = cc in absurd bad

stmt_told : (o : Option Stmt) → false ≡ is_decl (the_item (option_map vItem.Stmt o))
stmt_told (Some it) = sym (stmt_is_none it)
stmt_told None = sym (stmt_is_none (vStmt.Debugger (record { start = 0; end = 0 })))

abbrev pub is_decl_ref : ModuleItemRef → Bool
is_decl_ref (vRef.ModuleDecl d) = true
is_decl_ref (vRef.Stmt s) = false

pub item_told : (item : ModuleItemRef) → is_decl_ref item ≡ is_decl (lent_item item)
item_told (vRef.ModuleDecl d) = decl_told (decl_in (valued d.at.text.now d.at.tokens.now d.at.node)) d.typed
item_told (vRef.Stmt s) = stmt_told (stmt_in (valued s.at.text.now s.at.tokens.now s.at.node))

-- ---- programs
module _ (lang : Lang) (x : List ℕ) (ts : List Token) (q : Program) (read : Derives lang mode.Module x ts q)
    (has : list_any is_decl (items_of q) ≡ true) where
  -- a module with an import or an export among its items is no script
  pub no_script : (p : Program) → ¬ Derives lang mode.Script x ts p
  no_script p is =
      let same = same_items x ts lang p q is read in
      let none : list_any is_decl (items_of q) ≡ false =
      ap (λ (t : Program). list_any is_decl (items_of t)) same.3 ∙ ap (list_any is_decl) same.4
      ∙ stmts_have_none same.0.body in
      cc

  -- so it is the tree of the first mode
  pub is_module : IsFirstTree lang x ts (mode.Script ∷ mode.Module ∷ []) q
  is_module = inr (no_script, inl read)
