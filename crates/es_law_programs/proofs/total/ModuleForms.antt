-- What the nodes of imports, exports and programs are, where their parts are such.
use Rattle.std.specs.Prelude.{true, false, List}
use Rattle.std.proofs.Common.{ℕ}
use Rattle.base.specs.declared.range.Range.{Range}
use Rattle.es_token.specs.declared.token.Token.{Token}
use Rattle.es_ast.specs.declared.leaf.ImportPhase.{ImportPhase}
use Rattle.es_grammar.specs.declared.rows.NodeKind.TheVariants as l
use Rattle.es_lowering.specs.Value.{Value, absent, part, group, optional, turns, expr_at, stmt_at, decl_at, item_at, clause_at, names_at, import_specifier_at, export_specifier_at, attributes_at, entity_at}
use Rattle.es_lowering.specs.Texts.{token_at, ident_at, str_at, shebang_at, name_at, this_or_name_at}
use Rattle.es_lowering.specs.Modules as modules
use Rattle.es_lowering.specs.TypedStatements as typed_stmts
use Rattle.es_law_programs.proofs.total.Uses.{as_stmt, as_item, as_import_specifier, as_export_specifier, as_attributes, IsThere}
use Rattle.es_law_programs.proofs.total.Needs.{rest, of, leaf, word, maybe, group_of, Meets}
use Rattle.es_law_programs.proofs.total.Words.{given_there, map_there, is_shebang, shebang_found}
use Rattle.es_law_programs.proofs.total.Parts.{optional_in, turns_in}
use Rattle.es_law_programs.proofs.total.Table.{needs_names, needs_clause, needs_import_specifier, needs_export_specifier, needs_attributes, needs_entity, needs_module_decl, needs_program}

module _ (x : List ℕ) (ts : List Token) where
  pub names_Namespace : (from : ℕ) (r : Range) (p : Value) → Meets ts absent (needs_names l.Namespace) (part p)
      → IsThere (modules.namespace x ts r p)
  unfolding modules.namespace
  names_Namespace from r p m = map_there (ident_at x ts p 0) _ (map_there (token_at ts p 0) _ m.0)

  pub names_NamedImports : (from : ℕ) (r : Range) (p : Value) → Meets ts absent (needs_names l.NamedImports) (part p)
      → IsThere (modules.named_imports r p)
  unfolding modules.named_imports
  names_NamedImports from r p m =
      map_there (turns (λ turn. import_specifier_at turn 0) (group p 0)) _
      (turns_in (λ v. Meets ts absent (of as_import_specifier rest) (part v)) (λ turn. import_specifier_at turn 0)
      (λ t1 h1. h1.0) (part p 0) m.0)

  pub clause_DefaultClause : (from : ℕ) (r : Range) (p : Value)
      → Meets ts absent (needs_clause l.DefaultClause) (part p) → IsThere (modules.default_clause x ts p)
  unfolding modules.default_clause
  clause_DefaultClause from r p m = map_there (ident_at x ts p 0) _ (map_there (token_at ts p 0) _ m.0)

  pub clause_DefaultAndClause : (from : ℕ) (r : Range) (p : Value)
      → Meets ts absent (needs_clause l.DefaultAndClause) (part p) → IsThere (modules.default_and_clause x ts r p)
  unfolding modules.default_and_clause
  clause_DefaultAndClause from r p m =
      given_there (ident_at x ts p 0) _ (map_there (token_at ts p 0) _ m.0)
      (λ a1. given_there (names_at p 1) _ m.1.0 (λ a2. tt))

  pub import_specifier_RenamedImport : (from : ℕ) (r : Range) (p : Value)
      → Meets ts absent (needs_import_specifier l.RenamedImport) (part p) → IsThere (modules.renamed_import x ts r p)
  unfolding modules.renamed_import
  import_specifier_RenamedImport from r p m =
      given_there (name_at x ts (group p 1) 0) _ (map_there (token_at ts (group p 1) 0) _ (m.1.0.0))
      (λ a1. given_there (ident_at x ts p 2) _ (map_there (token_at ts p 2) _ m.1.1.0) (λ a2. tt))

  pub import_specifier_ImportedName : (from : ℕ) (r : Range) (p : Value)
      → Meets ts absent (needs_import_specifier l.ImportedName) (part p) → IsThere (modules.imported_name x ts r p)
  unfolding modules.imported_name
  import_specifier_ImportedName from r p m = map_there (ident_at x ts p 1) _ (map_there (token_at ts p 1) _ m.1.0)

  pub export_specifier_ExportedName : (from : ℕ) (r : Range) (p : Value)
      → Meets ts absent (needs_export_specifier l.ExportedName) (part p) → IsThere (modules.exported_name x ts r p)
  unfolding modules.exported_name
  export_specifier_ExportedName from r p m =
      given_there (name_at x ts (group p 1) 0) _ (map_there (token_at ts (group p 1) 0) _ (m.1.0.0))
      (λ a1. given_there (optional (λ g n. name_at x ts (group g n) 0) (group p 2)) _
      (optional_in (λ v. Meets ts absent (group_of (leaf rest) rest) (part v))
      (λ g n. name_at x ts (group g n) 0) (λ g2 h2. map_there (token_at ts (group g2 0) 0) _ (h2.0.0))
      (part p 2) m.1.1.0) (λ a3. tt))

  pub attributes_Attributes : (from : ℕ) (r : Range) (p : Value)
      → Meets ts absent (needs_attributes l.Attributes) (part p) → IsThere (modules.attributes x ts r p)
  unfolding modules.attributes
  attributes_Attributes from r p m =
      map_there (turns (modules.attribute x ts) (group p 0)) _
      (turns_in (λ v. Meets ts absent (group_of (leaf rest) (leaf rest)) (part v)) (modules.attribute x ts)
      (λ t1 h1. given_there (name_at x ts (group t1 0) 0) _ (map_there (token_at ts (group t1 0) 0) _ (h1.0.0))
      (λ a2. given_there (str_at x ts t1 1) _ (map_there (token_at ts t1 1) _ h1.1.0) (λ a3. tt)))
      (part p 0) m.0)

  pub entity_Entity : (from : ℕ) (r : Range) (p : Value) → Meets ts absent (needs_entity l.Entity) (part p)
      → IsThere (modules.entity x ts r p)
  unfolding modules.entity
  entity_Entity from r p m =
      given_there (this_or_name_at x ts p 0) _ (map_there (token_at ts p 0) _ m.0)
      (λ a1. given_there (turns (λ turn. ident_at x ts turn 0) (group p 1)) _
      (turns_in (λ v. Meets ts absent (leaf rest) (part v)) (λ turn. ident_at x ts turn 0)
      (λ t2 h2. map_there (token_at ts t2 0) _ h2.0) (part p 1) m.1.0) (λ a3. tt))

  pub entity_EntityOfType : (from : ℕ) (r : Range) (p : Value) → Meets ts absent (needs_entity l.EntityOfType) (part p)
      → IsThere (modules.entity x ts r p)
  unfolding modules.entity
  entity_EntityOfType from r p m =
      given_there (this_or_name_at x ts p 0) _ (map_there (token_at ts p 0) _ m.0)
      (λ a1. given_there (turns (λ turn. ident_at x ts turn 0) (group p 1)) _
      (turns_in (λ v. Meets ts absent (leaf rest) (part v)) (λ turn. ident_at x ts turn 0)
      (λ t2 h2. map_there (token_at ts t2 0) _ h2.0) (part p 1) m.1.0) (λ a3. tt))

  pub module_decl_BareImport : (from : ℕ) (r : Range) (p : Value)
      → Meets ts absent (needs_module_decl l.BareImport) (part p) → IsThere (modules.bare_import x ts r p)
  unfolding modules.bare_import
  module_decl_BareImport from r p m =
      given_there (str_at x ts p 0) _ (map_there (token_at ts p 0) _ m.0)
      (λ a1. given_there (optional attributes_at (group p 1)) _
      (optional_in (λ v. Meets ts absent (of as_attributes rest) (part v)) attributes_at (λ g2 h2. h2.0)
      (part p 1) m.1.0) (λ a3. tt))

  pub module_decl_FromImport : (from : ℕ) (r : Range) (p : Value)
      → Meets ts absent (needs_module_decl l.FromImport) (part p) → IsThere (modules.from_import x ts r p)
  unfolding modules.from_import
  module_decl_FromImport from r p m =
      given_there (clause_at p 1) _ m.1.0
      (λ a1. given_there (str_at x ts p 2) _ (map_there (token_at ts p 2) _ m.1.1.0)
      (λ a2. given_there (optional attributes_at (group p 3)) _
      (optional_in (λ v. Meets ts absent (of as_attributes rest) (part v)) attributes_at (λ g3 h3. h3.0)
      (part p 3) m.1.1.1.0) (λ a4. tt)))

  pub module_decl_phase : (phase : ImportPhase) (from : ℕ) (r : Range) (p : Value)
      → Meets ts absent (leaf (leaf (maybe (of as_attributes rest) rest))) (part p)
      → IsThere (modules.phase_import x ts phase r p)
  unfolding modules.phase_import
  module_decl_phase phase from r p m =
      given_there (ident_at x ts p 0) _ (map_there (token_at ts p 0) _ m.0)
      (λ a1. given_there (str_at x ts p 1) _ (map_there (token_at ts p 1) _ m.1.0)
      (λ a2. given_there (optional attributes_at (group p 2)) _
      (optional_in (λ v. Meets ts absent (of as_attributes rest) (part v)) attributes_at (λ g3 h3. h3.0)
      (part p 2) m.1.1.0) (λ a4. tt)))

  pub module_decl_RequireImport : (from : ℕ) (r : Range) (p : Value)
      → Meets ts absent (needs_module_decl l.RequireImport) (part p) → IsThere (modules.require_import x ts false r p)
  unfolding modules.require_import
  module_decl_RequireImport from r p m =
      given_there (ident_at x ts p 1) _ (map_there (token_at ts p 1) _ m.1.0)
      (λ a1. given_there (str_at x ts p 2) _ (map_there (token_at ts p 2) _ m.1.1.0) (λ a2. tt))

  pub module_decl_EntityImport : (from : ℕ) (r : Range) (p : Value)
      → Meets ts absent (needs_module_decl l.EntityImport) (part p) → IsThere (modules.entity_import x ts false r p)
  unfolding modules.entity_import
  module_decl_EntityImport from r p m =
      given_there (ident_at x ts p 1) _ (map_there (token_at ts p 1) _ m.1.0)
      (λ a1. given_there (entity_at p 2) _ m.1.1.0 (λ a2. tt))

  pub module_decl_ExportedRequireImport : (from : ℕ) (r : Range) (p : Value)
      → Meets ts absent (needs_module_decl l.ExportedRequireImport) (part p)
      → IsThere (modules.require_import x ts true r p)
  unfolding modules.require_import
  module_decl_ExportedRequireImport from r p m =
      given_there (ident_at x ts p 1) _ (map_there (token_at ts p 1) _ m.1.0)
      (λ a1. given_there (str_at x ts p 2) _ (map_there (token_at ts p 2) _ m.1.1.0) (λ a2. tt))

  pub module_decl_ExportedEntityImport : (from : ℕ) (r : Range) (p : Value)
      → Meets ts absent (needs_module_decl l.ExportedEntityImport) (part p)
      → IsThere (modules.entity_import x ts true r p)
  unfolding modules.entity_import
  module_decl_ExportedEntityImport from r p m =
      given_there (ident_at x ts p 1) _ (map_there (token_at ts p 1) _ m.1.0)
      (λ a1. given_there (entity_at p 2) _ m.1.1.0 (λ a2. tt))

  pub module_decl_ExportAll : (from : ℕ) (r : Range) (p : Value)
      → Meets ts absent (needs_module_decl l.ExportAll) (part p) → IsThere (modules.export_all x ts r p)
  unfolding modules.export_all
  module_decl_ExportAll from r p m =
      given_there (optional (λ g n. name_at x ts (group g n) 0) (group p 1)) _
      (optional_in (λ v. Meets ts absent (group_of (leaf rest) rest) (part v)) (λ g n. name_at x ts (group g n) 0)
      (λ g1 h1. map_there (token_at ts (group g1 0) 0) _ (h1.0.0)) (part p 1) m.1.0)
      (λ a2. given_there (str_at x ts p 2) _ (map_there (token_at ts p 2) _ m.1.1.0)
      (λ a3. given_there (optional attributes_at (group p 3)) _
      (optional_in (λ v. Meets ts absent (of as_attributes rest) (part v)) attributes_at
      (λ g4 h4. h4.0) (part p 3) m.1.1.1.0) (λ a5. tt)))

  pub module_decl_ExportNames : (from : ℕ) (r : Range) (p : Value)
      → Meets ts absent (needs_module_decl l.ExportNames) (part p) → IsThere (modules.export_names x ts r p)
  unfolding modules.export_names
  module_decl_ExportNames from r p m =
      given_there (turns (λ turn. export_specifier_at turn 0) (group p 1)) _
      (turns_in (λ v. Meets ts absent (of as_export_specifier rest) (part v)) (λ turn. export_specifier_at turn 0)
      (λ t1 h1. h1.0) (part p 1) m.1.0)
      (λ a2. given_there (optional (modules.source_with x ts) (group p 2)) _
      (optional_in (λ v. Meets ts absent (leaf (maybe (of as_attributes rest) rest)) (part v))
      (modules.source_with x ts)
      (λ g3 h3. given_there (str_at x ts g3 0) _ (map_there (token_at ts g3 0) _ h3.0)
      (λ a4. given_there (optional attributes_at (group g3 1)) _
      (optional_in (λ v. Meets ts absent (of as_attributes rest) (part v))
      attributes_at (λ g5 h5. h5.0) (part g3 1) h3.1.0) (λ a6. tt))) (part p 2)
      m.1.1.0) (λ a7. tt))

  pub module_decl_ExportNamespace : (from : ℕ) (r : Range) (p : Value)
      → Meets ts absent (needs_module_decl l.ExportNamespace) (part p) → IsThere (modules.export_namespace x ts r p)
  unfolding modules.export_namespace
  module_decl_ExportNamespace from r p m = map_there (ident_at x ts p 0) _ (map_there (token_at ts p 0) _ m.0)

  pub module_decl_ExportDefaultFunction : (from : ℕ) (r : Range) (p : Value)
      → Meets ts absent (needs_module_decl l.ExportDefaultFunction) (part p) → IsThere (modules.export_default_decl r p)
  unfolding modules.export_default_decl
  module_decl_ExportDefaultFunction from r p m = map_there (decl_at p 0) _ m.0

  pub module_decl_ExportDefaultClass : (from : ℕ) (r : Range) (p : Value)
      → Meets ts absent (needs_module_decl l.ExportDefaultClass) (part p) → IsThere (modules.export_default_decl r p)
  unfolding modules.export_default_decl
  module_decl_ExportDefaultClass from r p m = map_there (decl_at p 0) _ m.0

  pub module_decl_ExportDefaultExpression : (from : ℕ) (r : Range) (p : Value)
      → Meets ts absent (needs_module_decl l.ExportDefaultExpression) (part p)
      → IsThere (modules.export_default_expression r p)
  unfolding modules.export_default_expression
  module_decl_ExportDefaultExpression from r p m = map_there (expr_at p 0) _ m.0

  pub module_decl_ExportDeclaration : (from : ℕ) (r : Range) (p : Value)
      → Meets ts absent (needs_module_decl l.ExportDeclaration) (part p) → IsThere (modules.export_declaration r p)
  unfolding modules.export_declaration
  module_decl_ExportDeclaration from r p m = map_there (decl_at p 0) _ m.0

  pub module_decl_ExportDefaultInterface : (from : ℕ) (r : Range) (p : Value)
      → Meets ts absent (needs_module_decl l.ExportDefaultInterface) (part p)
      → IsThere (modules.export_default_decl r p)
  unfolding modules.export_default_decl
  module_decl_ExportDefaultInterface from r p m = map_there (decl_at p 0) _ m.0

  pub module_decl_ExportAssignment : (from : ℕ) (r : Range) (p : Value)
      → Meets ts absent (needs_module_decl l.ExportAssignment) (part p) → IsThere (typed_stmts.export_assignment r p)
  unfolding typed_stmts.export_assignment
  module_decl_ExportAssignment from r p m = map_there (expr_at p 0) _ m.0

  pub program_Module : (from : ℕ) (r : Range) (p : Value) → Meets ts absent (needs_program l.Module) (part p)
      → IsThere (modules.module_ x ts r p)
  unfolding modules.module_
  program_Module from r p m =
      given_there (optional (shebang_at x ts) (group p 0)) _
      (optional_in (λ v. Meets ts absent (word is_shebang rest) (part v)) (shebang_at x ts)
      (λ g1 h1. shebang_found x (token_at ts g1 0) h1.0) (part p 0) m.0)
      (λ a2. given_there (turns (λ turn. item_at turn 0) (group p 1)) _
      (turns_in (λ v. Meets ts absent (of as_item rest) (part v)) (λ turn. item_at turn 0)
      (λ t3 h3. h3.0) (part p 1) m.1.0) (λ a4. tt))

  pub program_Script : (from : ℕ) (r : Range) (p : Value) → Meets ts absent (needs_program l.Script) (part p)
      → IsThere (modules.script x ts r p)
  unfolding modules.script
  program_Script from r p m =
      given_there (optional (shebang_at x ts) (group p 0)) _
      (optional_in (λ v. Meets ts absent (word is_shebang rest) (part v)) (shebang_at x ts)
      (λ g1 h1. shebang_found x (token_at ts g1 0) h1.0) (part p 0) m.0)
      (λ a2. given_there (turns (λ turn. stmt_at turn 0) (group p 1)) _
      (turns_in (λ v. Meets ts absent (of as_stmt rest) (part v)) (λ turn. stmt_at turn 0)
      (λ t3 h3. h3.0) (part p 1) m.1.0) (λ a4. tt))
