-- Which nodes are statements, declarations, imports and exports; a statement that is no declaration is dropped.
use Rattle.std.specs.Prelude.{ℕ, ◌+◌, Bool, true, false, not, List, [], ◌∷◌, Option, Some, None, option_map, if◌then◌else◌}
use Rattle.std.proofs.Common.{◌≡◌, refl, sym, ap, subst, ◌∙◌}
use denote.Enum.Bare.{same_true}
use Rattle.base.specs.declared.range.Range.{Range}
use Rattle.es_token.specs.declared.token.Token.{Token}
use Rattle.es_token.specs.declared.token.TokenKind.TheVariants as k
use Rattle.es_token.specs.declared.token.TokenKind.{TokenKind}
use Rattle.grammar_theory.specs.Key.{same_kind}
use Rattle.es_grammar.specs.contracts.rows.NodeKind.{the_type}
use Rattle.es_grammar.specs.declared.rows.NodeKind.{NodeKind}
use Rattle.es_grammar.specs.declared.rows.NodeKind.TheVariants as l
use Rattle.es_ast.specs.declared.ts.leaf.Ident.{Ident}
use Rattle.es_ast.specs.declared.ast.Decl.{Decl}
use Rattle.es_ast.specs.declared.ast.Expr.{Expr}
use Rattle.es_ast.specs.declared.ast.ModuleDecl.{ModuleDecl}
use Rattle.es_ast.specs.declared.ast.ModuleItem.{ModuleItem}
use Rattle.es_ast.specs.declared.ast.ModuleItem.TheVariants as vItem
use Rattle.es_ast.specs.declared.leaf.VarDeclKind.{VarDeclKind}
use Rattle.es_ast.specs.declared.ast.Pat.{Pat}
use Rattle.es_ast.specs.declared.ast.SwitchCase.{SwitchCase}
use Rattle.es_ast.specs.declared.ast.Stmt.{Stmt, roll-Stmt}
use Rattle.es_ast.specs.declared.ast.Stmt.TheVariants as vStmt
use Rattle.es_ast.specs.declared.ast.ClassMember.TheOpen.{Stmt-F}
use Rattle.es_site.specs.Parts.{Whole}
use Rattle.es_lowering.specs.Value.{Value, absent, nil, more, token, node, given, part, group, optional, is_there, behind, expr_at, pat_at, stmt_at, head_at}
use Rattle.es_lowering.specs.Texts.{span_of, kind_at, ident_at}
use Rattle.es_lowering.specs.Operators.{listed, variable_kinds}
use Rattle.es_lowering.specs.Statements as stmts
use Rattle.es_lowering.specs.TypedStatements as typed_stmts
use Rattle.es_lowering.specs.Lowering.{same_label, build, stmt_of, decl_of, declarable_of, module_decl_of, item_by, variables_of}
use Rattle.es_syntax.specs.declared.entry.Lean.{Lean}
use Rattle.es_syntax.specs.declared.entry.Lean.TheVariants as vLean
use Rattle.es_syntax.specs.declared.entry.What.{What}
use Rattle.es_syntax.specs.declared.entry.What.TheVariants as vWhat
use Rattle.es_syntax.specs.declared.entry.Entry.{Entry}
use Rattle.es_syntax.specs.declared.cursor.Item.{Item}
use Rattle.es_syntax.specs.Held.{held, valued, made, parts_of, label_of}
use Rattle.es_syntax.specs.Roles.{decl_in, declarable_in, item_in, stmt_in, variables_in}
use Rattle.es_syntax.specs.Views.{is_one_of, IsNone}
use Rattle.es_syntax.proofs.Others.{in_held, in_role, in_leant}
use Rattle.es_view_statements.specs.decl.Declarable.{declarables}
use Rattle.es_view_statements.specs.decl.Decl.{declarations}
use Rattle.es_expr_spans.proofs.Given.{Of, one, none, of_given, of_mapped}
use Rattle.dts_rules.specs.Rules.{Env, State, is_plain_const}
use Rattle.dts_rules.specs.Programs.{in_stmt, shown_stmt}
use Rattle.dts_rules.proofs.Shown.{at_stmt, beside_stmt}
use Rattle.dts_items.specs.Labels.{is_node_of, module_labels, using_labels}

-- ---- of each of some alternatives
abbrev pub AllOf : (NodeKind → Type 0) → List NodeKind → Type 0
AllOf Q [] = Unit {0}
AllOf Q (label ∷ others) = Q label × AllOf Q others

one_more : (Q : NodeKind → Type 0) (first label : NodeKind) (others b : Bool) → same_label label first ≡ b
    → (if b then true else others) ≡ true → Q first → (others ≡ true → Q label) → Q label
one_more Q first label others true is e q rest = subst Q (sym (same_true the_type tt label first is)) q
one_more Q first label others false is e q rest = rest e

pub by_labels : (Q : NodeKind → Type 0) (labels : List NodeKind) (label : NodeKind) → is_one_of labels label ≡ true
    → AllOf Q labels → Q label
by_labels Q [] label e all = let bad : ⊥ = cc in absurd bad
by_labels Q (first ∷ others) label e all =
    one_more Q first label (is_one_of others label) (same_label label first) refl e all.0
    (λ e. by_labels Q others label e all.1)

past : {A : Type 0} (b others : Bool) (o e : Option A) → (if b then true else others) ≡ false
    → (others ≡ false → e ≡ None) → (if b then o else e) ≡ None
past true others o e h rest = let bad : ⊥ = cc in absurd bad
past false others o e h rest = rest h

-- `using`, or `var`, `let`, `const`
abbrev pub Plain : Bool → stmts.Variables → Type 0
Plain b v = is_plain_const v.0 ≡ b

module _ (x : List ℕ) (ts : List Token) where
  -- ---- no declaration
  no_declarable : (label : NodeKind) (r : Range) (p : Value) → is_one_of declarables label ≡ false
      → declarable_of x ts label r p ≡ None
  unfolding declarable_of
  no_declarable label r p e =
      past (same_label label l.TypedFunction) _ _ _ e (λ e.
      past (same_label label l.TypedAsyncFunction) _ _ _ e (λ e.
      past (same_label label l.TypedClass) _ _ _ e (λ e.
      past (same_label label l.AbstractClass) _ _ _ e (λ e.
      past (same_label label l.InterfaceDeclaration) _ _ _ e (λ e.
      past (same_label label l.AliasDeclaration) _ _ _ e (λ e.
      past (same_label label l.EnumDeclaration) _ _ _ e (λ e.
      past (same_label label l.NamespaceDeclaration) _ _ _ e (λ e.
      past (same_label label l.ModuleDeclaration) _ _ _ e (λ e.
      past (same_label label l.GlobalDeclaration) _ _ _ e (λ e. refl))))))))))

  no_decl : (label : NodeKind) (r : Range) (p : Value) → is_one_of declarations label ≡ false
      → decl_of x ts label r p ≡ None
  unfolding decl_of
  no_decl label r p e =
      past (same_label label l.Function) _ _ _ e (λ e.
      past (same_label label l.AsyncFunction) _ _ _ e (λ e.
      past (same_label label l.Class) _ _ _ e (λ e.
      past (same_label label l.VariableDeclaration) _ _ _ e (λ e.
      past (same_label label l.UsingDeclaration) _ _ _ e (λ e.
      past (same_label label l.Variables) _ _ _ e (λ e.
      past (same_label label l.Using) _ _ _ e (λ e.
      past (same_label label l.Declared) _ _ _ e (λ e.
      past (same_label label l.DeclaredVariables) _ _ _ e (λ e.
      ap (option_map (λ (decl : typed_stmts.Declarable). decl false r)) (no_declarable label r p e))))))))))

  -- ---- no import and no export
  no_module_decl : (label : NodeKind) (r : Range) (p : Value) → is_one_of module_labels label ≡ false
      → module_decl_of x ts label r p ≡ None
  unfolding module_decl_of
  no_module_decl label r p e =
      past (same_label label l.BareImport) _ _ _ e (λ e.
      past (same_label label l.FromImport) _ _ _ e (λ e.
      past (same_label label l.SourceImport) _ _ _ e (λ e.
      past (same_label label l.DeferImport) _ _ _ e (λ e.
      past (same_label label l.RequireImport) _ _ _ e (λ e.
      past (same_label label l.EntityImport) _ _ _ e (λ e.
      past (same_label label l.ExportedRequireImport) _ _ _ e (λ e.
      past (same_label label l.ExportedEntityImport) _ _ _ e (λ e.
      past (same_label label l.ExportAll) _ _ _ e (λ e.
      past (same_label label l.ExportNames) _ _ _ e (λ e.
      past (same_label label l.ExportNamespace) _ _ _ e (λ e.
      past (same_label label l.ExportDefaultFunction) _ _ _ e (λ e.
      past (same_label label l.ExportDefaultClass) _ _ _ e (λ e.
      past (same_label label l.ExportDefaultExpression) _ _ _ e (λ e.
      past (same_label label l.ExportDeclaration) _ _ _ e (λ e.
      past (same_label label l.ExportDefaultInterface) _ _ _ e (λ e.
      past (same_label label l.ExportAssignment) _ _ _ e (λ e. refl)))))))))))))))))

  -- ---- at a place of a row
  lean_item : (lean : Lean) (from : ℕ) (r : Range) (p : Value) → (build x ts (label_of lean) from r p).item ≡ None
  unfolding build stmt_of decl_of declarable_of module_decl_of
  lean_item vLean.Binary from r p = refl
  lean_item vLean.TypedBinary from r p = refl

  lean_stmt : (lean : Lean) (from : ℕ) (r : Range) (p : Value) → (build x ts (label_of lean) from r p).stmt ≡ None
  unfolding build stmt_of decl_of declarable_of
  lean_stmt vLean.Binary from r p = refl
  lean_stmt vLean.TypedBinary from r p = refl

  lean_declarable : (lean : Lean) (from : ℕ) (r : Range) (p : Value)
      → (build x ts (label_of lean) from r p).declarable ≡ None
  unfolding build declarable_of
  lean_declarable vLean.Binary from r p = refl
  lean_declarable vLean.TypedBinary from r p = refl

  lean_variables : (lean : Lean) (from : ℕ) (r : Range) (p : Value)
      → (build x ts (label_of lean) from r p).variables ≡ None
  unfolding build variables_of
  lean_variables vLean.Binary from r p = refl
  lean_variables vLean.TypedBinary from r p = refl

  -- an import or an export is no statement
  outside : (w : What) (from to : ℕ) (es : List Entry) → is_node_of module_labels w ≡ true
      → stmt_in (made x ts w from to (held x ts es) (parts_of x ts es)) ≡ None
  unfolding build stmt_of decl_of declarable_of
  outside vWhat.Leaf from to es e = refl
  outside (vWhat.Node label) from to es e =
      by_labels (λ label. stmt_of x ts label (span_of ts from to) (held x ts es) ≡ None) module_labels label e (
        refl,
        (
          refl,
          (
            refl,
            (
              refl,
              (
                refl,
                (
                  refl,
                  (refl, (refl, (refl, (refl, (refl, (refl, (refl, (refl, (refl, (refl, (refl, tt))))))))))),
                ),
              ),
            ),
          ),
        ),
      )
  outside (vWhat.Role label) from to es e = in_role x ts (λ m. m.stmt) (λ e. refl) (part (held x ts es) 0)
  outside vWhat.Parts from to es e = in_held x ts (λ m. m.stmt) es
  outside (vWhat.Lean lean) from to es e = in_leant x ts (λ m. m.stmt) lean_stmt lean from (parts_of x ts es)

  pub no_stmt : (i : Item) → is_node_of module_labels i.what ≡ true → stmt_in (valued x ts i) ≡ None
  no_stmt i e = outside i.what i.from i.to i.parts.entries.now e

  -- what is neither is a statement as an item
  same_none : {A B : Type 0} (f : A → B) (o : Option A) (q : Option B) → q ≡ None → o ≡ None → q ≡ option_map f o
  same_none f o q eq eo = eq ∙ ap (option_map f) (sym eo)

  inside_ : (w : What) (from to : ℕ) (es : List Entry) → is_node_of module_labels w ≡ false
      → item_in (made x ts w from to (held x ts es) (parts_of x ts es))
      ≡ option_map vItem.Stmt (stmt_in (made x ts w from to (held x ts es) (parts_of x ts es)))
  unfolding build
  inside_ vWhat.Leaf from to es e = refl
  inside_ (vWhat.Node label) from to es e =
      ap (λ (d : Option ModuleDecl). item_by x ts d (stmt_of x ts label (span_of ts from to) (held x ts es)))
      (no_module_decl label (span_of ts from to) (held x ts es) e)
  inside_ (vWhat.Role label) from to es e =
      same_none vItem.Stmt _ _ (in_role x ts (λ m. m.item) (λ e. refl) (part (held x ts es) 0))
      (in_role x ts (λ m. m.stmt) (λ e. refl) (part (held x ts es) 0))
  inside_ vWhat.Parts from to es e =
      same_none vItem.Stmt _ _ (in_held x ts (λ m. m.item) es) (in_held x ts (λ m. m.stmt) es)
  inside_ (vWhat.Lean lean) from to es e =
      same_none vItem.Stmt _ _ (in_leant x ts (λ m. m.item) lean_item lean from (parts_of x ts es))
      (in_leant x ts (λ m. m.stmt) lean_stmt lean from (parts_of x ts es))

  pub stmt_item : (i : Item) → is_node_of module_labels i.what ≡ false
      → item_in (valued x ts i) ≡ option_map vItem.Stmt (stmt_in (valued x ts i))
  stmt_item i e = inside_ i.what i.from i.to i.parts.entries.now e

  -- a declaration is one as a statement
  declared_ : (w : What) (from to : ℕ) (es : List Entry) → is_node_of declarations w ≡ true
      → stmt_in (made x ts w from to (held x ts es) (parts_of x ts es))
      ≡ option_map vStmt.Decl (decl_in (made x ts w from to (held x ts es) (parts_of x ts es)))
  unfolding build stmt_of
  declared_ vWhat.Leaf from to es e = refl
  declared_ (vWhat.Node label) from to es e =
      by_labels (λ label. stmt_of x ts label (span_of ts from to) (held x ts es)
      ≡ option_map vStmt.Decl (decl_of x ts label (span_of ts from to) (held x ts es))) declarations label e (
        refl,
        (
          refl,
          (
            refl,
            (
              refl,
              (
                refl,
                (
                  refl,
                  (
                    refl,
                    (
                      refl,
                      (
                        refl,
                        (refl, (refl, (refl, (refl, (refl, (refl, (refl, (refl, (refl, (refl, tt)))))))))),
                      ),
                    ),
                  ),
                ),
              ),
            ),
          ),
        ),
      )
  declared_ (vWhat.Role label) from to es e = let bad : ⊥ = cc in absurd bad
  declared_ vWhat.Parts from to es e = let bad : ⊥ = cc in absurd bad
  declared_ (vWhat.Lean lean) from to es e = let bad : ⊥ = cc in absurd bad

  pub decl_stmt : (i : Item) → is_node_of declarations i.what ≡ true
      → stmt_in (valued x ts i) ≡ option_map vStmt.Decl (decl_in (valued x ts i))
  decl_stmt i e = declared_ i.what i.from i.to i.parts.entries.now e

  -- and neither an import nor an export
  pub decl_lone : (w : What) → is_node_of declarations w ≡ true → is_node_of module_labels w ≡ false
  decl_lone vWhat.Leaf e = refl
  decl_lone (vWhat.Node label) e =
      by_labels (λ label. is_one_of module_labels label ≡ false) declarations label e (
        refl,
        (
          refl,
          (
            refl,
            (
              refl,
              (
                refl,
                (
                  refl,
                  (
                    refl,
                    (
                      refl,
                      (
                        refl,
                        (refl, (refl, (refl, (refl, (refl, (refl, (refl, (refl, (refl, (refl, tt)))))))))),
                      ),
                    ),
                  ),
                ),
              ),
            ),
          ),
        ),
      )
  decl_lone (vWhat.Role label) e = refl
  decl_lone vWhat.Parts e = refl
  decl_lone (vWhat.Lean lean) e = refl

  -- ---- what may follow `declare`
  undeclarable_ : (w : What) (from to : ℕ) (es : List Entry) → IsNone declarables w
      → declarable_in (made x ts w from to (held x ts es) (parts_of x ts es)) ≡ None
  unfolding build
  undeclarable_ vWhat.Leaf from to es e = refl
  undeclarable_ (vWhat.Node label) from to es e = no_declarable label (span_of ts from to) (held x ts es) e
  undeclarable_ (vWhat.Role label) from to es e =
      in_role x ts (λ m. m.declarable) (λ e. refl) (part (held x ts es) 0)
  undeclarable_ vWhat.Parts from to es e = in_held x ts (λ m. m.declarable) es
  undeclarable_ (vWhat.Lean lean) from to es e =
      in_leant x ts (λ m. m.declarable) lean_declarable lean from (parts_of x ts es)

  pub undeclarable : (i : Item) → IsNone declarables i.what → declarable_in (valued x ts i) ≡ None
  undeclarable i e = undeclarable_ i.what i.from i.to i.parts.entries.now e

  lean_decl : (lean : Lean) (from : ℕ) (r : Range) (p : Value) → (build x ts (label_of lean) from r p).decl ≡ None
  unfolding build
  lean_decl vLean.Binary from r p = no_decl l.Binary r p refl
  lean_decl vLean.TypedBinary from r p = no_decl l.TypedBinary r p refl

  undeclared_ : (w : What) (from to : ℕ) (es : List Entry) → IsNone declarations w
      → decl_in (made x ts w from to (held x ts es) (parts_of x ts es)) ≡ None
  unfolding build
  undeclared_ vWhat.Leaf from to es e = refl
  undeclared_ (vWhat.Node label) from to es e = no_decl label (span_of ts from to) (held x ts es) e
  undeclared_ (vWhat.Role label) from to es e = in_role x ts (λ m. m.decl) (λ e. refl) (part (held x ts es) 0)
  undeclared_ vWhat.Parts from to es e = in_held x ts (λ m. m.decl) es
  undeclared_ (vWhat.Lean lean) from to es e = in_leant x ts (λ m. m.decl) lean_decl lean from (parts_of x ts es)

  pub undeclared : (i : Item) → IsNone declarations i.what → decl_in (valued x ts i) ≡ None
  undeclared i e = undeclared_ i.what i.from i.to i.parts.entries.now e

  -- ---- variables
  if_listed : (P : VarDeclKind → Type 0) (b : Bool) (first : VarDeclKind) (others : Option VarDeclKind) → P first
      → Of P others → Of P (if b then Some first else others)
  if_listed P true first others p os = one P p
  if_listed P false first others p os = os

  pub plain_kind : (kind : TokenKind) → Of (λ it. is_plain_const it ≡ true) (listed variable_kinds kind)
  unfolding variable_kinds
  plain_kind kind =
      let P : VarDeclKind → Type 0 = λ it. is_plain_const it ≡ true in
      if_listed P (same_kind kind k.VarWord) _ _ refl
      (if_listed P (same_kind kind k.LetWord) _ _ refl (if_listed P (same_kind kind k.ConstWord) _ _ refl (none P)))

  pub plain_variables : (kind : Option TokenKind) {B : Type 0} (o : Option B)
      (f : VarDeclKind → B → stmts.Variables) → ((it : VarDeclKind) (b : B) → (f it b).0 ≡ it)
      → Of (Plain true) (given (given kind (listed variable_kinds)) (λ kind. given o (λ b. Some (f kind b))))
  plain_variables None o f same = none (Plain true)
  plain_variables (Some kind) o f same = go (listed variable_kinds kind) (plain_kind kind) o
    where
      go : (it : Option VarDeclKind) → Of (λ it. is_plain_const it ≡ true) it → (o : Option _)
          → Of (Plain true) (given it (λ kind. given o (λ b. Some (f kind b))))
      go None known o = none (Plain true)
      go (Some it) known None = none (Plain true)
      go (Some it) known (Some b) = one (Plain true) (ap is_plain_const (same it b) ∙ known.is)

  by_branch : (P : NodeKind → stmts.Variables → Type 0) (label other : NodeKind) {first second : Option stmts.Variables}
      → Of (P other) first → Of (P label) second → Of (P label) (if same_label label other then first else second)
  by_branch P label other {first} {second} f s = go (same_label label other) refl
    where
      go : (b : Bool) → same_label label other ≡ b → Of (P label) (if b then first else second)
      go true e =
          let R : NodeKind → Type 0 = λ label. Of (P label) first in
          subst R (sym (same_true the_type tt label other e)) f
      go false e = s

  using_is : (is_await : Bool) → is_plain_const (stmts.using_kind is_await) ≡ false
  using_is true = refl
  using_is false = refl

  abbrev Labelled : NodeKind → stmts.Variables → Type 0
  Labelled label v = is_plain_const v.0 ≡ not (is_one_of using_labels label)

  plain_of : (p : Value) → Of (Labelled l.Variables) (stmts.variables ts p)
  unfolding stmts.variables
  plain_of p =
      plain_variables (kind_at ts p 0) (stmts.declarators_at p 1) (λ kind decls. (kind, decls)) (λ it b. refl)

  using_of : (p : Value) → Of (Labelled l.Using) (stmts.using_ p)
  unfolding stmts.using_
  using_of p = of_given (Labelled l.Using) (stmts.declarators_at p 1)
      (λ decls. one (Labelled l.Using) (using_is (is_there (group p 0))))

  variables_forms : (label : NodeKind) (p : Value) → Of (Labelled label) (variables_of x ts label p)
  unfolding variables_of
  variables_forms label p =
      by_branch Labelled label l.Variables (plain_of p)
      (by_branch Labelled label l.Using (using_of p) (none (Labelled label)))

  no_variables : (b : Bool) (o : Option stmts.Variables) → o ≡ None → Of (Plain b) o
  no_variables b o e = subst (Of (Plain b)) (sym e) (none (Plain b))

  there_ : (b : Bool) (w : What) (from to : ℕ) (es : List Entry) → is_node_of using_labels w ≡ b
      → Of (Plain (not b)) (variables_in (made x ts w from to (held x ts es) (parts_of x ts es)))
  unfolding build
  there_ b vWhat.Leaf from to es e = none (Plain (not b))
  there_ b (vWhat.Node label) from to es e =
      subst (λ (b : Bool). Of (Plain (not b)) (variables_of x ts label (held x ts es))) e
      (variables_forms label (held x ts es))
  there_ b (vWhat.Role label) from to es e =
      no_variables (not b) _ (in_role x ts (λ m. m.variables) (λ e. refl) (part (held x ts es) 0))
  there_ b vWhat.Parts from to es e = no_variables (not b) _ (in_held x ts (λ m. m.variables) es)
  there_ b (vWhat.Lean lean) from to es e =
      no_variables (not b) _ (in_leant x ts (λ m. m.variables) lean_variables lean from (parts_of x ts es))

  pub variables_known : (i : Item) (b : Bool) → is_node_of using_labels i.what ≡ b
      → Of (Plain (not b)) (variables_in (valued x ts i))
  variables_known i b e = there_ b i.what i.from i.to i.parts.entries.now e

module _ (env : Env) where
  -- ---- statements that are no declarations
  abbrev pub Other : Stmt → Type 0
  Other it = (top : Bool) (s : State) → shown_stmt env it top s ≡ (None, s)

  stmt_is : (w : Whole Stmt-F) (it : Stmt) → roll-Stmt w ≡ it
      → ((top : Bool) (s : State) → in_stmt env (beside_stmt env w) top s ≡ (None, s)) → Other it
  stmt_is w it rolls e top s =
      ap (λ (it : Stmt). shown_stmt env it top s) (sym rolls)
      ∙ (ap (λ run. run top s) (at_stmt env w) ∙ e top s)

  is_Block : (stmts : List Stmt) (r : Range) → Other (vStmt.Block stmts r)
  is_Block stmts r = stmt_is (Stmt-F.Block stmts r) _ (vStmt.rolls-Block stmts r) (λ top s. refl)

  is_Empty : (r : Range) → Other (vStmt.Empty r)
  is_Empty r = stmt_is (Stmt-F.Stmt::Empty r) _ (vStmt.rolls-Empty r) (λ top s. refl)

  is_Debugger : (r : Range) → Other (vStmt.Debugger r)
  is_Debugger r = stmt_is (Stmt-F.Debugger r) _ (vStmt.rolls-Debugger r) (λ top s. refl)

  is_With : (obj : Expr) (body : Stmt) (r : Range) → Other (vStmt.With obj body r)
  is_With obj body r = stmt_is (Stmt-F.With obj body r) _ (vStmt.rolls-With obj body r) (λ top s. refl)

  is_Return : (arg : Option Expr) (r : Range) → Other (vStmt.Return arg r)
  is_Return arg r = stmt_is (Stmt-F.Return arg r) _ (vStmt.rolls-Return arg r) (λ top s. refl)

  is_Labeled : (label : Ident) (body : Stmt) (r : Range) → Other (vStmt.Labeled label body r)
  is_Labeled label body r = stmt_is (Stmt-F.Labeled label body r) _ (vStmt.rolls-Labeled label body r) (λ top s. refl)

  is_Break : (label : Option Ident) (r : Range) → Other (vStmt.Break label r)
  is_Break label r = stmt_is (Stmt-F.Break label r) _ (vStmt.rolls-Break label r) (λ top s. refl)

  is_Continue : (label : Option Ident) (r : Range) → Other (vStmt.Continue label r)
  is_Continue label r = stmt_is (Stmt-F.Continue label r) _ (vStmt.rolls-Continue label r) (λ top s. refl)

  is_If : (test : Expr) (cons : Stmt) (alt : Option Stmt) (r : Range) → Other (vStmt.If test cons alt r)
  is_If test cons alt r = stmt_is (Stmt-F.If test cons alt r) _ (vStmt.rolls-If test cons alt r) (λ top s. refl)

  is_Switch : (on : Expr) (cases : List SwitchCase) (r : Range) → Other (vStmt.Switch on cases r)
  is_Switch on cases r = stmt_is (Stmt-F.Switch on cases r) _ (vStmt.rolls-Switch on cases r) (λ top s. refl)

  is_Throw : (arg : Expr) (r : Range) → Other (vStmt.Throw arg r)
  is_Throw arg r = stmt_is (Stmt-F.Throw arg r) _ (vStmt.rolls-Throw arg r) (λ top s. refl)

  is_Try : (body : Stmt) (param : Option Pat) (handler : Option Stmt) (finalizer : Option Stmt) (r : Range)
      → Other (vStmt.Try body param handler finalizer r)
  is_Try body param handler finalizer r =
      stmt_is (Stmt-F.Try body param handler finalizer r) _ (vStmt.rolls-Try body param handler finalizer r)
      (λ top s. refl)

  is_While : (test : Expr) (body : Stmt) (r : Range) → Other (vStmt.While test body r)
  is_While test body r = stmt_is (Stmt-F.While test body r) _ (vStmt.rolls-While test body r) (λ top s. refl)

  is_DoWhile : (body : Stmt) (test : Expr) (r : Range) → Other (vStmt.DoWhile body test r)
  is_DoWhile body test r = stmt_is (Stmt-F.DoWhile body test r) _ (vStmt.rolls-DoWhile body test r) (λ top s. refl)

  is_For : (init : Option Stmt) (test : Option Expr) (update : Option Expr) (body : Stmt) (r : Range)
      → Other (vStmt.For init test update body r)
  is_For init test update body r =
      stmt_is (Stmt-F.For init test update body r) _ (vStmt.rolls-For init test update body r) (λ top s. refl)

  is_ForIn : (kind : Option VarDeclKind) (left : Pat) (right : Expr) (body : Stmt) (r : Range)
      → Other (vStmt.ForIn kind left right body r)
  is_ForIn kind left right body r =
      stmt_is (Stmt-F.ForIn kind left right body r) _ (vStmt.rolls-ForIn kind left right body r) (λ top s. refl)

  is_ForOf : (is_await : Bool) (kind : Option VarDeclKind) (left : Pat) (right : Expr) (body : Stmt) (r : Range)
      → Other (vStmt.ForOf is_await kind left right body r)
  is_ForOf is_await kind left right body r =
      stmt_is (Stmt-F.ForOf is_await kind left right body r) _ (vStmt.rolls-ForOf is_await kind left right body r)
      (λ top s. refl)

  is_Expr : (e : Expr) (r : Range) → Other (vStmt.Expr e r)
  is_Expr e r = stmt_is (Stmt-F.Stmt::Expr e r) _ (vStmt.rolls-Expr e r) (λ top s. refl)

  abbrev None_ : Stmt → Type 0
  None_ it = Other it

  module _ (x : List ℕ) (ts : List Token) (r : Range) where
    block : (p : Value) → Of None_ (option_map (λ stmts. vStmt.Block stmts r) (stmts.block p))
    block p = of_mapped None_ (stmts.block p) (λ all. is_Block all r)

    expression : (p : Value) → Of None_ (stmts.expression_statement r p)
    unfolding stmts.expression_statement
    expression p = of_mapped None_ (expr_at p 0) (λ e. is_Expr e r)

    labelled : (p : Value) → Of None_ (stmts.labelled x ts r p)
    unfolding stmts.labelled
    labelled p =
        of_given None_ (ident_at x ts p 0)
        (λ label. of_given None_ (stmt_at p 1) (λ body. one None_ (is_Labeled label body r)))

    if_ : (p : Value) → Of None_ (stmts.if_ r p)
    unfolding stmts.if_
    if_ p =
        of_given None_ (expr_at p 0) (λ test.
        of_given None_ (stmt_at p 1) (λ cons.
        of_given None_ (optional stmt_at (group p 2)) (λ alt. one None_ (is_If test cons alt r))))

    for_ : (p : Value) → Of None_ (stmts.for_ ts r p)
    unfolding stmts.for_
    for_ p =
        of_given None_ (stmts.start_of_for ts p) (λ init.
        of_given None_ (optional expr_at (group p 3)) (λ test.
        of_given None_ (optional expr_at (group p 4)) (λ update.
        of_given None_ (stmt_at p 5) (λ body. one None_ (is_For init test update body r)))))

    each : (b : Bool) (head : stmts.Head) (right : Expr) (body : Stmt) → None_ (stmts.each_of b r head right body)
    each true head right body = is_ForIn head.0 head.1 right body r
    each false head right body = is_ForOf false head.0 head.1 right body r

    for_each : (p : Value) → Of None_ (stmts.for_each ts r p)
    unfolding stmts.for_each
    for_each p =
        of_given None_ (head_at p 0) (λ head.
        of_given None_ (kind_at ts (group p 1) 0) (λ kind.
        of_given None_ (expr_at (group p 1) 1) (λ right.
        of_given None_ (stmt_at p 2) (λ body. one None_ (each (same_kind kind k.InWord) head right body)))))

    for_await : (p : Value) → Of None_ (stmts.for_await r p)
    unfolding stmts.for_await
    for_await p =
        of_given None_ (head_at p 0) (λ head.
        of_given None_ (expr_at p 1) (λ right.
        of_given None_ (stmt_at p 2) (λ body. one None_ (is_ForOf true head.0 head.1 right body r))))

    while_ : (p : Value) → Of None_ (stmts.while_ r p)
    unfolding stmts.while_
    while_ p = of_given None_ (expr_at p 0)
        (λ test. of_given None_ (stmt_at p 1) (λ body. one None_ (is_While test body r)))

    do_ : (p : Value) → Of None_ (stmts.do_ r p)
    unfolding stmts.do_
    do_ p = of_given None_ (stmt_at p 0)
        (λ body. of_given None_ (expr_at p 1) (λ test. one None_ (is_DoWhile body test r)))

    continue_ : (p : Value) → Of None_ (stmts.continue_ x ts r p)
    unfolding stmts.continue_
    continue_ p = of_mapped None_ (optional (ident_at x ts) (group p 0)) (λ label. is_Continue label r)

    break_ : (p : Value) → Of None_ (stmts.break_ x ts r p)
    unfolding stmts.break_
    break_ p = of_mapped None_ (optional (ident_at x ts) (group p 0)) (λ label. is_Break label r)

    return_ : (p : Value) → Of None_ (stmts.return_ r p)
    unfolding stmts.return_
    return_ p = of_mapped None_ (stmts.returned (group p 0)) (λ arg. is_Return arg r)

    throw_ : (p : Value) → Of None_ (stmts.throw_ r p)
    unfolding stmts.throw_
    throw_ p = of_mapped None_ (expr_at p 0) (λ arg. is_Throw arg r)

    switch_ : (p : Value) → Of None_ (stmts.switch_ ts r p)
    unfolding stmts.switch_
    switch_ p =
        of_given None_ (expr_at p 0) (λ on.
        of_given None_ (stmts.clauses ts (behind (part p 0) + 2) (group p 1))
        (λ cases. one None_ (is_Switch on cases r)))

    with_ : (p : Value) → Of None_ (stmts.with_ r p)
    unfolding stmts.with_
    with_ p = of_given None_ (expr_at p 0)
        (λ obj. of_given None_ (stmt_at p 1) (λ body. one None_ (is_With obj body r)))

    handled_rest : (block : Stmt) (v : Value) → Of None_ (given (optional pat_at (group v 0)) (λ param.
        given (stmt_at v 1) (λ handler.
        given (optional stmt_at (group v 2)) (λ finalizer. Some (vStmt.Try block param (Some handler) finalizer r)))))
    handled_rest block v =
        of_given None_ (optional pat_at (group v 0)) (λ param.
        of_given None_ (stmt_at v 1) (λ handler.
        of_given None_ (optional stmt_at (group v 2))
        (λ finalizer. one None_ (is_Try block param (Some handler) finalizer r))))

    handled : (block : Stmt) (v : Value) → Of None_ (stmts.handled r block v)
    handled block (more body nil) =
        of_mapped None_ (stmt_at (more body nil) 0) (λ finalizer. is_Try block None None (Some finalizer) r)
    handled block (more body absent) = handled_rest block (more body absent)
    handled block (more body (more w ws)) = handled_rest block (more body (more w ws))
    handled block (more body (token n)) = handled_rest block (more body (token n))
    handled block (more body (node from to m)) = handled_rest block (more body (node from to m))
    handled block absent = handled_rest block absent
    handled block nil = handled_rest block nil
    handled block (token n) = handled_rest block (token n)
    handled block (node from to m) = handled_rest block (node from to m)

    typed_handled_rest : (block : Stmt) (v : Value) → Of None_ (given (typed_stmts.caught_in ts (group v 0)) (λ param.
        given (stmt_at v 1) (λ handler.
        given (optional stmt_at (group v 2)) (λ finalizer. Some (vStmt.Try block param (Some handler) finalizer r)))))
    typed_handled_rest block v =
        of_given None_ (typed_stmts.caught_in ts (group v 0)) (λ param.
        of_given None_ (stmt_at v 1) (λ handler.
        of_given None_ (optional stmt_at (group v 2))
        (λ finalizer. one None_ (is_Try block param (Some handler) finalizer r))))

    typed_handled : (block : Stmt) (v : Value) → Of None_ (typed_stmts.typed_handled ts r block v)
    typed_handled block (more body nil) =
        of_mapped None_ (stmt_at (more body nil) 0) (λ finalizer. is_Try block None None (Some finalizer) r)
    typed_handled block (more body absent) = typed_handled_rest block (more body absent)
    typed_handled block (more body (more w ws)) = typed_handled_rest block (more body (more w ws))
    typed_handled block (more body (token n)) = typed_handled_rest block (more body (token n))
    typed_handled block (more body (node from to m)) = typed_handled_rest block (more body (node from to m))
    typed_handled block absent = typed_handled_rest block absent
    typed_handled block nil = typed_handled_rest block nil
    typed_handled block (token n) = typed_handled_rest block (token n)
    typed_handled block (node from to m) = typed_handled_rest block (node from to m)

    try_ : (p : Value) → Of None_ (stmts.try_ r p)
    unfolding stmts.try_
    try_ p = of_given None_ (stmt_at p 0) (λ body. handled body (group p 1))

    typed_try : (p : Value) → Of None_ (typed_stmts.typed_try ts r p)
    unfolding typed_stmts.typed_try
    typed_try p = of_given None_ (stmt_at p 0) (λ body. typed_handled body (group p 1))

  of_branch : (label other : NodeKind) {first second : Option Stmt} → Of Other first → Of Other second
      → Of Other (if same_label label other then first else second)
  of_branch label other {first} {second} f s = go (same_label label other)
    where
      go : (b : Bool) → Of Other (if b then first else second)
      go true = f
      go false = s

  module _ (x : List ℕ) (ts : List Token) (r : Range) (p : Value) where
    undeclared_stmt : (label : NodeKind) → is_one_of declarations label ≡ false
        → Of Other (option_map vStmt.Decl (decl_of x ts label r p))
    undeclared_stmt label e =
        subst (λ (d : Option Decl). Of Other (option_map vStmt.Decl d)) (sym (no_decl x ts label r p e)) (none Other)

    stmt_known : (label : NodeKind) → is_one_of declarations label ≡ false → Of Other (stmt_of x ts label r p)
    unfolding stmt_of
    stmt_known label e =
        of_branch label l.Block (block x ts r p)
        (of_branch label l.EmptyStatement (one None_ (is_Empty r))
        (of_branch label l.ExpressionStatement (expression x ts r p)
        (of_branch label l.LabelledStatement (labelled x ts r p)
        (of_branch label l.IfStatement (if_ x ts r p)
        (of_branch label l.ForStatement (for_ x ts r p)
        (of_branch label l.ForEachStatement (for_each x ts r p)
        (of_branch label l.ForAwaitStatement (for_await x ts r p)
        (of_branch label l.WhileStatement (while_ x ts r p)
        (of_branch label l.DoStatement (do_ x ts r p)
        (of_branch label l.ContinueStatement (continue_ x ts r p)
        (of_branch label l.BreakStatement (break_ x ts r p)
        (of_branch label l.ReturnStatement (return_ x ts r p)
        (of_branch label l.ThrowStatement (throw_ x ts r p)
        (of_branch label l.SwitchStatement (switch_ x ts r p)
        (of_branch label l.TryStatement (try_ x ts r p)
        (of_branch label l.DebuggerStatement (one None_ (is_Debugger r))
        (of_branch label l.WithStatement (with_ x ts r p)
        (of_branch label l.TypedTryStatement (typed_try x ts r p)
        (undeclared_stmt label e)))))))))))))))))))

  module _ (x : List ℕ) (ts : List Token) where
    no_stmt_there : (o : Option Stmt) → o ≡ None → Of Other o
    no_stmt_there o e = subst (Of Other) (sym e) (none Other)

    place : (w : What) (from to : ℕ) (es : List Entry) → is_node_of declarations w ≡ false
        → Of Other (stmt_in (made x ts w from to (held x ts es) (parts_of x ts es)))
    unfolding build
    place vWhat.Leaf from to es e = none Other
    place (vWhat.Node label) from to es e = stmt_known x ts (span_of ts from to) (held x ts es) label e
    place (vWhat.Role label) from to es e =
        no_stmt_there _ (in_role x ts (λ m. m.stmt) (λ e. refl) (part (held x ts es) 0))
    place vWhat.Parts from to es e = no_stmt_there _ (in_held x ts (λ m. m.stmt) es)
    place (vWhat.Lean lean) from to es e =
        no_stmt_there _ (in_leant x ts (λ m. m.stmt) (lean_stmt x ts) lean from (parts_of x ts es))

    pub other_stmt : (i : Item) → is_node_of declarations i.what ≡ false → Of Other (stmt_in (valued x ts i))
    other_stmt i e = place i.what i.from i.to i.parts.entries.now e
