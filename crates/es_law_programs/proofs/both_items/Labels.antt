-- No import or export is a statement.
use Rattle.std.specs.Prelude.{Bool, true, false, Option, None, if◌then◌else◌}
use Rattle.std.proofs.Common.{◌≡◌, ℕ, List, refl, sym, subst}
use denote.Enum.Bare.{same_true}
use Rattle.base.specs.declared.range.Range.{Range}
use Rattle.es_token.specs.declared.token.Token.{Token}
use Rattle.es_ast.specs.declared.ast.ModuleDecl.{ModuleDecl}
use Rattle.es_grammar.specs.contracts.rows.NodeKind.{the_type}
use Rattle.es_grammar.specs.declared.rows.NodeKind.{NodeKind}
use Rattle.es_grammar.specs.declared.rows.NodeKind.TheVariants as l
use Rattle.es_lowering.specs.Value.{Value}
use Rattle.es_lowering.specs.Lowering.{module_decl_of, decl_of, declarable_of, stmt_of, same_label}

module _ (x : List ℕ) (ts : List Token) (r : Range) (p : Value) where
  abbrev NoStmt : NodeKind → Type 0
  NoStmt label = stmt_of x ts label r p ≡ None

  -- a line of the table of imports and exports, at a statement
  if_none : (label m : NodeKind) (o e : Option ModuleDecl) → (NoStmt label → ⊥) → NoStmt m → e ≡ None
      → (if same_label label m then o else e) ≡ None
  if_none label m o e is none next = go (same_label label m) refl
    where
      go : (b : Bool) → same_label label m ≡ b → (if b then o else e) ≡ None
      go true same = absurd (is (subst NoStmt (sym (same_true the_type tt label m same)) none))
      go false same = next

  -- what is a statement by its alternative is no import and no export
  pub no_decl : (label : NodeKind) → (NoStmt label → ⊥) → module_decl_of x ts label r p ≡ None
  unfolding module_decl_of stmt_of decl_of declarable_of
  no_decl label is =
      if_none label l.BareImport _ _ is refl
      (if_none label l.FromImport _ _ is refl
      (if_none label l.SourceImport _ _ is refl
      (if_none label l.DeferImport _ _ is refl
      (if_none label l.RequireImport _ _ is refl
      (if_none label l.EntityImport _ _ is refl
      (if_none label l.ExportedRequireImport _ _ is refl
      (if_none label l.ExportedEntityImport _ _ is refl
      (if_none label l.ExportAll _ _ is refl
      (if_none label l.ExportNames _ _ is refl
      (if_none label l.ExportNamespace _ _ is refl
      (if_none label l.ExportDefaultFunction _ _ is refl
      (if_none label l.ExportDefaultClass _ _ is refl
      (if_none label l.ExportDefaultExpression _ _ is refl
      (if_none label l.ExportDeclaration _ _ is refl
      (if_none label l.ExportDefaultInterface _ _ is refl
      (if_none label l.ExportAssignment _ _ is refl refl))))))))))))))))
