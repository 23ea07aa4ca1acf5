-- The sites of imports, exports and programs.
use Rattle.std.specs.Prelude.{Bool, false, List, [], ◌∷◌, Option, Some, None, option_map, fold, codes, if◌then◌else◌}
use Rattle.std.specs.List.{flat_map}
use Rattle.std.proofs.Common.{◌≡◌, ℕ, refl, sym, ap, ◌∙◌}
use Rattle.base.specs.declared.range.Range.{Range}
use Rattle.es_token.specs.declared.token.Token.{Token}
use Rattle.es_ast.specs.declared.ts.leaf.Str.{Str}
use Rattle.es_ast.specs.declared.leaf.ImportPhase.{ImportPhase}
use Rattle.es_ast.specs.declared.leaf.ImportAttribute.{ImportAttribute}
use Rattle.es_ast.specs.declared.leaf.ImportAttributes.{ImportAttributes}
use Rattle.es_ast.specs.declared.leaf.ModuleExportName.{ModuleExportName}
use Rattle.es_ast.specs.declared.ast.Stmt.{Stmt}
use Rattle.es_ast.specs.declared.ast.ModuleDecl.{ModuleDecl}
use Rattle.es_ast.specs.declared.ast.ModuleItem.TheVariants as vItem
use Rattle.es_grammar.specs.declared.rows.NodeKind.{NodeKind}
use Rattle.es_grammar.specs.declared.rows.NodeKind.TheVariants as l
use Rattle.es_site.specs.declared.site.Attribute.{Attribute}
use Rattle.es_site.specs.declared.site.Attribute.TheVariants.{Unknown}
use Rattle.es_site.specs.declared.site.DependencyKind.{DependencyKind}
use Rattle.es_site.specs.declared.site.DependencyKind.TheVariants as kind
use Rattle.es_site.specs.Attributes.{attribute_of, named, spells}
use Rattle.es_site.specs.Sites.{Found, import_kind, site_at, export_site, sites_of, sites_of_expr, sites_of_decl, sites_of_stmt, sites_of_module_decl, sites_of_module_item}
use Rattle.es_site.proofs.Equations.{module_decl_Import, module_decl_ExportDecl, module_decl_ExportNamed, module_decl_ExportDefaultDecl, module_decl_ExportDefaultExpr, module_decl_ExportAll, module_decl_TsImportEquals, module_decl_TsExportAssignment, module_decl_TsNamespaceExport, module_item_ModuleDecl, module_item_Stmt}
use Rattle.es_lowering.specs.Value.{Typed, Value, given, typed}
use Rattle.es_lowering.specs.Value as v
use Rattle.es_lowering.specs.Texts.{ident_at, name_of, name_at, str_of, str_at, token_of, shebang_at}
use Rattle.es_lowering.specs.Modules.{attribute, attributes, bare_import, from_import, phase_import, require_import, entity_import, export_all, source_with, with_of, export_names, export_namespace, export_default_decl, export_default_expression, export_declaration, module_, script}
use Rattle.es_lowering.specs.TypedStatements.{export_assignment}
use Rattle.es_lowering.specs.Lowering.{item_by}
use Rattle.es_law_sites.proofs.ranges.Cuts.{Opt}
use Rattle.es_law_sites.specs.plain.Part.{Part, more, node, part, as_group, group, is_there, at, inside, turns}
use Rattle.es_law_sites.specs.plain.Own as o
use Rattle.es_law_sites.specs.plain.Own.{token_in, str_in, attribute_in, clause_attribute, naming, declared, own}
use Rattle.es_law_sites.proofs.plain.Given.{given_fine, given_any, map_fine, map_any}
use Rattle.es_law_sites.proofs.plain.Is.{Of, Is, none, nothing, both, same, made, part_is, as_group_is, group_is, there_is, token_is, expr_in, decl_in, stmt_in, item_in, turns_in}
use Rattle.es_law_sites.proofs.plain.Exprs.{two}

module _ (x : List ℕ) (ts : List Token) where
  -- ---- literals
  pub str_there : (n : ℕ) (p : Value) (q : Part) → Is x ts p q
      → Opt (λ s. str_in x ts (part q n) ≡ Some s) (str_at x ts p n)
  str_there n p q h = go (token_of ts (v.part p n)) (token_is x ts (v.part p n) (part q n) (part_is x ts p q n h))
    where
      go : (t : Option Token) → t ≡ token_in x ts (part q n)
          → Opt (λ s. option_map (str_of x) (token_in x ts (part q n)) ≡ Some s) (option_map (str_of x) t)
      go None e = tt
      go (Some t) e = ap (option_map (str_of x)) (sym e)

  -- ---- attributes
  KeyThere : Part → ModuleExportName → Type 0
  KeyThere w key = (word : List ℕ) → spells word key ≡ o.spelt x ts word (token_in x ts w)

  name_there : (n : ℕ) (p : Value) (q : Part) → Is x ts p q → Opt (KeyThere (part q n)) (name_at x ts p n)
  unfolding KeyThere
  name_there n p q h = go (token_of ts (v.part p n)) (token_is x ts (v.part p n) (part q n) (part_is x ts p q n h))
    where
      go : (t : Option Token) → t ≡ token_in x ts (part q n)
          → Opt (KeyThere (part q n)) (option_map (name_of x) t)
      go None e = tt
      go (Some t) e = λ word. ap (o.spelt x ts word) e

  ItemsAre : Part → List ImportAttribute → Type 0
  ItemsAre q items = (last : Option Str)
      → fold (λ last item. if spells (codes "type") item.key then Some item.value else last) last items
      ≡ o.last_type x ts last q

  items_are : (p : Value) (q : Part) → Is x ts p q → Opt (ItemsAre q) (v.turns (attribute x ts) p)
  unfolding KeyThere ItemsAre
  items_are p q none = λ last. refl
  items_are p q nothing = λ last. refl
  items_are p q (both a b r s h i) =
      let turn = as_group_is x ts a b h in
      given_fine (λ (it : ImportAttribute). (last : Option Str)
      → (if spells (codes "type") it.key then Some it.value else last)
      ≡ (if o.spelt x ts (codes "type") (token_in x ts (part (group (as_group b) 0) 0)) then
      str_in x ts (part (as_group b) 1) else last))
      (ItemsAre (more b s)) (attribute x ts (v.as_group a)) _
      (given_fine (KeyThere (part (group (as_group b) 0) 0)) _ (name_at x ts (v.group (v.as_group a) 0) 0) _
      (name_there 0 (v.group (v.as_group a) 0) (group (as_group b) 0)
      (group_is x ts (v.as_group a) (as_group b) 0 turn))
      (λ key f. given_fine (λ s. str_in x ts (part (as_group b) 1) ≡ Some s) _ (str_at x ts (v.as_group a) 1) _
      (str_there 1 (v.as_group a) (as_group b) turn) (λ value g last.
      two (λ (k : Bool) (m : Option Str). if k then m else last) (f (codes "type")) (sym g))))
      (λ it f. given_fine (ItemsAre s) (ItemsAre (more b s)) (v.turns (attribute x ts) r) _ (items_are r s i)
      (λ rest g last.
      ap (λ k. fold (λ last item. if spells (codes "type") item.key then Some item.value else last) k rest) (f last)
      ∙ g (if o.spelt x ts (codes "type") (token_in x ts (part (group (as_group b) 0) 0)) then
      str_in x ts (part (as_group b) 1) else last)))
  items_are p q (same n) = λ last. refl
  items_are p q (made from to m label r s h) = λ last. refl

  -- the clause behind a literal
  pub with_there : (p : Value) (q : Part) → Is x ts p q
      → Opt (λ (c : Option ImportAttributes). attribute_of c ≡ attribute_in x ts q) (v.optional v.attributes_at p)
  with_there p q none = refl
  with_there p q nothing = refl
  with_there p q (both a b r s h i) =
      map_fine (λ (c : ImportAttributes). attribute_of (Some c) ≡ clause_attribute x ts b)
      (λ (c : Option ImportAttributes). attribute_of c ≡ clause_attribute x ts b)
      (given (typed a) (λ (m : Typed). m.attributes)) Some (go a b h) (λ c f. f)
    where
      go : (p : Value) (q : Part) → Is x ts p q
          → Opt (λ (c : ImportAttributes). attribute_of (Some c) ≡ clause_attribute x ts q)
          (given (typed p) (λ (m : Typed). m.attributes))
      go p q none = tt
      go p q nothing = tt
      go p q (both a b r s h i) = tt
      go p q (same n) = tt
      go p q (made from to m label r s h) = h.attributes
  with_there p q (same n) = refl
  with_there p q (made from to m label r s h) = refl

  -- a site of its own
  names : (kind : DependencyKind) (a b : Bool) (c d : Attribute) (src : Str) (w : Option Str) → a ≡ b → c ≡ d
      → w ≡ Some src
      → site_at kind a src c ∷ [] ≡ naming x ts kind b d w
  names kind a b c d src w e f g =
      two (λ k m. site_at kind k src m ∷ []) e f ∙ ap (naming x ts kind b d) (sym g)

  abbrev pub Md : NodeKind → Part → ModuleDecl → Type 0
  Md label q = Of sites_of_module_decl (own x ts label q)

  module _ (r : Range) (p : Value) (q : Part) (h : Is x ts p q) where
    pub attributes_is : Opt
        (λ (c : ImportAttributes). attribute_of (Some c) ≡ clause_attribute x ts (node l.Attributes q []))
        (attributes x ts r p)
    unfolding attributes ItemsAre
    attributes_is =
        map_fine (ItemsAre (group q 0)) _ (v.turns (attribute x ts) (v.group p 0)) _
        (items_are (v.group p 0) (group q 0) (group_is x ts p q 0 h)) (λ items f. ap named (f None))

    pub bare_import_is : Opt (Md l.BareImport q) (bare_import x ts r p)
    unfolding bare_import
    bare_import_is =
        given_fine (λ s. str_in x ts (part q 0) ≡ Some s) (Md l.BareImport q) (str_at x ts p 0) _ (str_there 0 p q h)
        (λ src f.
        given_fine (λ (c : Option ImportAttributes). attribute_of c ≡ attribute_in x ts (group q 1)) (Md l.BareImport q)
        (v.optional v.attributes_at (v.group p 1)) _
        (with_there (v.group p 1) (group q 1) (group_is x ts p q 1 h)) (λ with g.
        module_decl_Import [] _ ∙ names kind.Import false false _ _ src _ refl g f))

    pub from_import_is : Opt (Md l.FromImport q) (from_import x ts r p)
    unfolding from_import
    from_import_is =
        given_any (Md l.FromImport q) (v.clause_at p 1) _ (λ clause.
        given_fine (λ s. str_in x ts (part q 2) ≡ Some s) (Md l.FromImport q) (str_at x ts p 2) _ (str_there 2 p q h)
        (λ src f.
        given_fine (λ (c : Option ImportAttributes). attribute_of c ≡ attribute_in x ts (group q 3)) (Md l.FromImport q)
        (v.optional v.attributes_at (v.group p 3)) _
        (with_there (v.group p 3) (group q 3) (group_is x ts p q 3 h)) (λ with g.
        module_decl_Import [] _ ∙ names kind.Import (v.is_there (v.group p 0)) _ _ _ src _
        (there_is x ts (v.group p 0) (group q 0) (group_is x ts p q 0 h)) g f)))

    pub phase_import_is : (phase : ImportPhase)
        → Opt (Of sites_of_module_decl (declared x ts (import_kind phase) false q 1)) (phase_import x ts phase r p)
    unfolding phase_import
    phase_import_is phase =
        let Q = Of sites_of_module_decl (declared x ts (import_kind phase) false q 1) in
        given_any Q (ident_at x ts p 0) _ (λ local.
        given_fine (λ s. str_in x ts (part q 1) ≡ Some s) Q (str_at x ts p 1) _ (str_there 1 p q h) (λ src f.
        given_fine (λ (c : Option ImportAttributes). attribute_of c ≡ attribute_in x ts (group q 2)) Q
        (v.optional v.attributes_at (v.group p 2)) _
        (with_there (v.group p 2) (group q 2) (group_is x ts p q 2 h)) (λ with g.
        module_decl_Import [] _ ∙ names (import_kind phase) false false _ _ src _ refl g f)))

    pub require_import_is : (is_export : Bool)
        → Opt (Of sites_of_module_decl
        (naming x ts kind.ImportEquals (is_there (group q 0)) Unknown (str_in x ts (part q 2))))
        (require_import x ts is_export r p)
    unfolding require_import
    require_import_is is_export =
        let Q = Of sites_of_module_decl
        (naming x ts kind.ImportEquals (is_there (group q 0)) Unknown (str_in x ts (part q 2))) in
        given_any Q (ident_at x ts p 1) _ (λ id.
        given_fine (λ s. str_in x ts (part q 2) ≡ Some s) Q (str_at x ts p 2) _ (str_there 2 p q h) (λ src f.
        module_decl_TsImportEquals [] _ ∙ names kind.ImportEquals (v.is_there (v.group p 0)) _ Unknown Unknown src _
        (there_is x ts (v.group p 0) (group q 0) (group_is x ts p q 0 h)) refl f))

    pub entity_import_is : (is_export : Bool) → Opt (Of sites_of_module_decl []) (entity_import x ts is_export r p)
    unfolding entity_import
    entity_import_is is_export =
        given_any (Of sites_of_module_decl []) (ident_at x ts p 1) _ (λ id.
        given_any (Of sites_of_module_decl []) (v.entity_at p 2) _ (λ name. module_decl_TsImportEquals [] _))

    pub export_all_is : Opt (Md l.ExportAll q) (export_all x ts r p)
    unfolding export_all
    export_all_is =
        given_any (Md l.ExportAll q) (v.optional (λ g n. name_at x ts (v.group g n) 0) (v.group p 1)) _ (λ exported.
        given_fine (λ s. str_in x ts (part q 2) ≡ Some s) (Md l.ExportAll q) (str_at x ts p 2) _ (str_there 2 p q h)
        (λ src f.
        given_fine (λ (c : Option ImportAttributes). attribute_of c ≡ attribute_in x ts (group q 3)) (Md l.ExportAll q)
        (v.optional v.attributes_at (v.group p 3)) _
        (with_there (v.group p 3) (group q 3) (group_is x ts p q 3 h)) (λ with g.
        module_decl_ExportAll [] _ ∙ names kind.Export (v.is_there (v.group p 0)) _ _ _ src _
        (there_is x ts (v.group p 0) (group q 0) (group_is x ts p q 0 h)) g f)))

    -- `export { .. }`, with `from` or without
    SourceIs : Part → Option (Str × Option ImportAttributes) → Type 0
    SourceIs g source = (a b : Bool) → a ≡ b
        → export_site a (attribute_of (with_of source)) (option_map (λ (s : Str × Option ImportAttributes). s.0) source)
        ≡ inside (λ g. declared x ts kind.Export b g 0) g

    source_is : (p : Value) (q : Part) → Is x ts p q → Opt (SourceIs q) (v.optional (source_with x ts) p)
    unfolding SourceIs
    source_is p q none = λ a b e. refl
    source_is p q nothing = λ a b e. refl
    source_is p q (both a b r s h i) =
        let g = more b s in
        map_fine (λ (source : Str × Option ImportAttributes). SourceIs g (Some source)) (SourceIs g)
        (source_with x ts (v.more a r) 0) Some
        (given_fine (λ s. str_in x ts (part g 0) ≡ Some s) _ (str_at x ts (v.more a r) 0) _
        (str_there 0 (v.more a r) g (both a b r s h i)) (λ src f.
        given_fine (λ (c : Option ImportAttributes). attribute_of c ≡ attribute_in x ts (group g 1)) _
        (v.optional v.attributes_at (v.group (v.more a r) 1)) _
        (with_there (v.group (v.more a r) 1) (group g 1) (group_is x ts (v.more a r) g 1 (both a b r s h i)))
        (λ with k c d e. names kind.Export c d _ _ src _ e k f))) (λ source f. f)
    source_is p q (same n) = λ a b e. refl
    source_is p q (made from to m label r s h) = λ a b e. refl

    pub export_names_is : Opt (Md l.ExportNames q) (export_names x ts r p)
    unfolding export_names SourceIs
    export_names_is =
        given_any (Md l.ExportNames q) (v.turns (λ turn. v.export_specifier_at turn 0) (v.group p 1)) _ (λ specifiers.
        given_fine (SourceIs (group q 2)) (Md l.ExportNames q) (v.optional (source_with x ts) (v.group p 2)) _
        (source_is (v.group p 2) (group q 2) (group_is x ts p q 2 h)) (λ source f.
        module_decl_ExportNamed [] _ ∙ f (v.is_there (v.group p 0)) (is_there (group q 0))
        (there_is x ts (v.group p 0) (group q 0) (group_is x ts p q 0 h))))

    pub export_namespace_is : Opt (Of sites_of_module_decl []) (export_namespace x ts r p)
    unfolding export_namespace
    export_namespace_is =
        map_any (Of sites_of_module_decl []) (ident_at x ts p 0) _ (λ id. module_decl_TsNamespaceExport [] _)

    pub export_default_decl_is : Opt (Of sites_of_module_decl (at q 0)) (export_default_decl r p)
    unfolding export_default_decl
    export_default_decl_is =
        map_fine (Of sites_of_decl (at q 0)) (Of sites_of_module_decl (at q 0)) (v.decl_at p 0) _ (decl_in x ts 0 p q h)
        (λ decl f. module_decl_ExportDefaultDecl [] decl r ∙ f)

    pub export_default_expression_is : Opt (Of sites_of_module_decl (at q 0)) (export_default_expression r p)
    unfolding export_default_expression
    export_default_expression_is =
        map_fine (Of sites_of_expr (at q 0)) (Of sites_of_module_decl (at q 0)) (v.expr_at p 0) _ (expr_in x ts 0 p q h)
        (λ e f. module_decl_ExportDefaultExpr [] e r ∙ f)

    pub export_declaration_is : Opt (Of sites_of_module_decl (at q 0)) (export_declaration r p)
    unfolding export_declaration
    export_declaration_is =
        map_fine (Of sites_of_decl (at q 0)) (Of sites_of_module_decl (at q 0)) (v.decl_at p 0) _ (decl_in x ts 0 p q h)
        (λ decl f. module_decl_ExportDecl [] decl r ∙ f)

    pub export_assignment_is : Opt (Of sites_of_module_decl (at q 0)) (export_assignment r p)
    unfolding export_assignment
    export_assignment_is =
        map_fine (Of sites_of_expr (at q 0)) (Of sites_of_module_decl (at q 0)) (v.expr_at p 0) _ (expr_in x ts 0 p q h)
        (λ e f. module_decl_TsExportAssignment [] e r ∙ f)

    pub module_is : Opt (Of sites_of (turns q 1 0)) (module_ x ts r p)
    unfolding module_
    module_is =
        given_any (Of sites_of (turns q 1 0)) (v.optional (shebang_at x ts) (v.group p 0)) _ (λ shebang.
        given_fine (Of (flat_map sites_of_module_item) (turns q 1 0)) (Of sites_of (turns q 1 0))
        (v.turns (λ turn. v.item_at turn 0) (v.group p 1)) _
        (turns_in x ts sites_of_module_item (λ turn. v.item_at turn 0) (λ turn. at turn 0)
        (λ a b i. item_in x ts 0 a b i)
        (v.group p 1) (group q 1) (group_is x ts p q 1 h)) (λ body f. f))

    pub script_is : Opt (Of sites_of (turns q 1 0)) (script x ts r p)
    unfolding script
    script_is =
        given_any (Of sites_of (turns q 1 0)) (v.optional (shebang_at x ts) (v.group p 0)) _ (λ shebang.
        given_fine (Of (flat_map sites_of_stmt) (turns q 1 0)) (Of sites_of (turns q 1 0))
        (v.turns (λ turn. v.stmt_at turn 0) (v.group p 1)) _
        (turns_in x ts sites_of_stmt (λ turn. v.stmt_at turn 0) (λ turn. at turn 0) (λ a b i. stmt_in x ts 0 a b i)
        (v.group p 1) (group q 1) (group_is x ts p q 1 h)) (λ body f. f))

  pub item_by_is : (s : Found) (m : Option ModuleDecl) (stmt : Option Stmt) → Opt (Of sites_of_module_decl s) m
      → Opt (Of sites_of_stmt s) stmt → Opt (Of sites_of_module_item s) (item_by x ts m stmt)
  item_by_is s (Some m) stmt f g = module_item_ModuleDecl [] m ∙ f
  item_by_is s None stmt f g =
      map_fine (Of sites_of_stmt s) (Of sites_of_module_item s) stmt vItem.Stmt g (λ it k. module_item_Stmt [] it ∙ k)
