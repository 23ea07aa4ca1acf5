-- What is read of an item: where it stands, and what it tells.
use Rattle.std.specs.Prelude.{Bool, true, false, Option, Some, None, option_map}
use Rattle.std.proofs.Common.{◌≡◌, ℕ, List, refl, sym, ap, subst, ◌∙◌}
use Rattle.es_token.specs.declared.token.Token.{Token}
use Rattle.es_ast.specs.declared.ast.Expr.{Expr}
use Rattle.es_ast.specs.declared.ast.Stmt.{Stmt}
use Rattle.es_ast.specs.declared.ast.Stmt.TheVariants as vStmt
use Rattle.es_ast.specs.declared.ast.ModuleDecl.{ModuleDecl}
use Rattle.es_ast.specs.declared.ast.ModuleItem.{ModuleItem, roll-ModuleItem, out-ModuleItem, out-roll-ModuleItem}
use Rattle.es_ast.specs.declared.ast.ModuleItem.TheVariants as vItem
use Rattle.es_ast.specs.declared.ast.ClassMember.TheOpen.{ModuleItem-F}
use Rattle.es_lowering.specs.Value.{Typed, Value, given, typed}
use Rattle.es_lowering.specs.Texts.{span_of}
use Rattle.es_lowering.specs.Lowering.{build, module_decl_of, declarable_of, decl_of, stmt_of, target_of, item_by}
use Rattle.es_syntax.specs.declared.entry.What.{What}
use Rattle.es_syntax.specs.declared.entry.What.TheVariants as vWhat
use Rattle.es_syntax.specs.declared.entry.Lean.{Lean}
use Rattle.es_syntax.specs.declared.entry.Lean.TheVariants as vLean
use Rattle.es_syntax.specs.declared.entry.Entry.{Entry}
use Rattle.es_syntax.specs.declared.cursor.Item.{Item}
use Rattle.es_syntax.specs.Held.{label_of, made, parts_of, held, valued}
use Rattle.es_syntax.specs.Roles.{item_in, stmt_in}
use Rattle.es_program.specs.items.Spans.{span_by, span_of_lent}
use Rattle.es_program.specs.items.Told.{told_by_decl, told_by_item, told_by}
use Rattle.es_program.specs.items.Items.{is_some, decl_by, decl_in, the_item, told_node}
use Rattle.es_program.proofs.items_lemmas.Given.{Opt}
use Rattle.es_program.proofs.items_lemmas.Nodes.{by_node, made_role}
use Rattle.es_program.proofs.items_lemmas.Stmts.{StmtAt, stmt_at}
use Rattle.es_program.proofs.items_lemmas.Decls.{DeclIs, decl_at}

abbrev pub of_item : Typed → Option ModuleItem
of_item m = m.item

abbrev pub of_stmt : Typed → Option Stmt
of_stmt m = m.stmt

pub out_decl : (it : ModuleDecl) → out-ModuleItem (vItem.ModuleDecl it) ≡ ModuleItem-F.ModuleDecl it
out_decl it = sym (ap out-ModuleItem (vItem.rolls-ModuleDecl it)) ∙ out-roll-ModuleItem (ModuleItem-F.ModuleDecl it)

pub out_stmt : (it : Stmt) → out-ModuleItem (vItem.Stmt it) ≡ ModuleItem-F.Stmt it
out_stmt it = sym (ap out-ModuleItem (vItem.rolls-Stmt it)) ∙ out-roll-ModuleItem (ModuleItem-F.Stmt it)

pub decl_of_item : (x : List ℕ) (ts : List Token) (o : Option ModuleDecl) (s : Option Stmt)
    → given (item_by x ts o s) (λ item. decl_by (out-ModuleItem item)) ≡ o
decl_of_item x ts (Some it) s = ap decl_by (out_decl it)
decl_of_item x ts None (Some it) = ap decl_by (out_stmt it)
decl_of_item x ts None None = refl

module _ (x : List ℕ) (ts : List Token) where
  pub item_target : (e : Option Expr) → of_item (target_of x ts e) ≡ None
  item_target e = refl

  pub stmt_target : (e : Option Expr) → of_stmt (target_of x ts e) ≡ None
  stmt_target e = refl

  pub item_lean : (lean : Lean) (from to : ℕ) (p : Value)
      → of_item (build x ts (label_of lean) from (span_of ts from to) p) ≡ None
  unfolding build module_decl_of stmt_of decl_of declarable_of
  item_lean vLean.Binary from to p = refl
  item_lean vLean.TypedBinary from to p = refl

  pub stmt_lean : (lean : Lean) (from to : ℕ) (p : Value)
      → of_stmt (build x ts (label_of lean) from (span_of ts from to) p) ≡ None
  unfolding build stmt_of decl_of declarable_of
  stmt_lean vLean.Binary from to p = refl
  stmt_lean vLean.TypedBinary from to p = refl

  -- ---- by the alternative of the node
  abbrev pub stmt_node : What → ℕ → ℕ → Value → Option Stmt
  stmt_node (vWhat.Node label) from to p = stmt_of x ts label (span_of ts from to) p
  stmt_node _ from to p = None

  abbrev pub decl_node : What → ℕ → ℕ → Value → Option ModuleDecl
  decl_node (vWhat.Node label) from to p = module_decl_of x ts label (span_of ts from to) p
  decl_node _ from to p = None

  stmt_by_node : (w : What) (from to : ℕ) (p : Value)
      → by_node x ts of_stmt stmt_target stmt_lean w from to p ≡ stmt_node w from to p
  unfolding build
  stmt_by_node vWhat.Leaf from to p = refl
  stmt_by_node (vWhat.Node label) from to p = refl
  stmt_by_node (vWhat.Role label) from to p = refl
  stmt_by_node vWhat.Parts from to p = refl
  stmt_by_node (vWhat.Lean lean) from to p = refl

  item_by_node : (w : What) (from to : ℕ) (p : Value)
      → by_node x ts of_item item_target item_lean w from to p
      ≡ item_by x ts (decl_node w from to p) (stmt_node w from to p)
  unfolding build
  item_by_node vWhat.Leaf from to p = refl
  item_by_node (vWhat.Node label) from to p = refl
  item_by_node (vWhat.Role label) from to p = refl
  item_by_node vWhat.Parts from to p = refl
  item_by_node (vWhat.Lean lean) from to p = refl

  module _ (i : Item) where
    pub stmt_here : stmt_in (valued x ts i) ≡ stmt_node i.what i.from i.to (held x ts i.parts.entries.now)
    stmt_here =
        made_role x ts of_stmt stmt_target stmt_lean i.what i.from i.to i.parts.entries.now
        ∙ stmt_by_node i.what i.from i.to (held x ts i.parts.entries.now)

    pub item_here : item_in (valued x ts i)
        ≡ item_by x ts (decl_node i.what i.from i.to (held x ts i.parts.entries.now))
        (stmt_node i.what i.from i.to (held x ts i.parts.entries.now))
    item_here =
        made_role x ts of_item item_target item_lean i.what i.from i.to i.parts.entries.now
        ∙ item_by_node i.what i.from i.to (held x ts i.parts.entries.now)

    pub decl_here : decl_in (valued x ts i) ≡ decl_node i.what i.from i.to (held x ts i.parts.entries.now)
    decl_here =
        ap (λ (o : Option ModuleItem). given o (λ item. decl_by (out-ModuleItem item))) item_here
        ∙ decl_of_item x ts (decl_node i.what i.from i.to (held x ts i.parts.entries.now))
        (stmt_node i.what i.from i.to (held x ts i.parts.entries.now))

  stmt_at_node : (w : What) (from to : ℕ) (es : List Entry)
      → Opt (StmtAt (span_of ts from to)) (stmt_node w from to (held x ts es))
  stmt_at_node vWhat.Leaf from to es = tt
  stmt_at_node (vWhat.Node label) from to es = stmt_at x ts label (span_of ts from to) es
  stmt_at_node (vWhat.Role label) from to es = tt
  stmt_at_node vWhat.Parts from to es = tt
  stmt_at_node (vWhat.Lean lean) from to es = tt

  decl_at_node : (w : What) (from to : ℕ) (p : Value)
      → Opt (DeclIs (span_of ts from to) (told_node w)) (decl_node w from to p)
  decl_at_node vWhat.Leaf from to p = tt
  decl_at_node (vWhat.Node label) from to p = decl_at x ts (span_of ts from to) p label
  decl_at_node (vWhat.Role label) from to p = tt
  decl_at_node vWhat.Parts from to p = tt
  decl_at_node (vWhat.Lean lean) from to p = tt

  stmt_opt : (i : Item) → Opt (StmtAt (span_of ts i.from i.to)) (stmt_in (valued x ts i))
  stmt_opt i =
      subst (Opt (StmtAt (span_of ts i.from i.to))) (sym (stmt_here i))
      (stmt_at_node i.what i.from i.to i.parts.entries.now)

  decl_opt : (i : Item) → Opt (DeclIs (span_of ts i.from i.to) (told_node i.what)) (decl_in (valued x ts i))
  decl_opt i =
      subst (Opt (DeclIs (span_of ts i.from i.to) (told_node i.what))) (sym (decl_here i))
      (decl_at_node i.what i.from i.to (held x ts i.parts.entries.now))

  -- ---- what is read
  pub stmt_span : (i : Item) → is_some (stmt_in (valued x ts i)) ≡ true
      → span_of ts i.from i.to ≡ span_of_lent (the_item (option_map vItem.Stmt (stmt_in (valued x ts i))))
  stmt_span i is = go (stmt_in (valued x ts i)) (stmt_opt i) is
    where
      go : (o : Option Stmt) → Opt (StmtAt (span_of ts i.from i.to)) o → is_some o ≡ true
          → span_of ts i.from i.to ≡ span_of_lent (the_item (option_map vItem.Stmt o))
      go (Some it) at is = sym (ap span_by (out_stmt it) ∙ at)
      go None at is = let bad : ⊥ = cc in absurd bad

  pub decl_span : (i : Item) → is_some (decl_in (valued x ts i)) ≡ true
      → span_of ts i.from i.to ≡ span_of_lent (the_item (option_map vItem.ModuleDecl (decl_in (valued x ts i))))
  decl_span i is = go (decl_in (valued x ts i)) (decl_opt i) is
    where
      go : (o : Option ModuleDecl) → Opt (DeclIs (span_of ts i.from i.to) (told_node i.what)) o → is_some o ≡ true
          → span_of ts i.from i.to ≡ span_of_lent (the_item (option_map vItem.ModuleDecl o))
      go (Some it) at is = sym (ap span_by (out_decl it) ∙ at.span)
      go None at is = let bad : ⊥ = cc in absurd bad

  pub decl_told : (i : Item) → is_some (decl_in (valued x ts i)) ≡ true
      → told_node i.what ≡ told_by (the_item (option_map vItem.ModuleDecl (decl_in (valued x ts i))))
  decl_told i is = go (decl_in (valued x ts i)) (decl_opt i) is
    where
      go : (o : Option ModuleDecl) → Opt (DeclIs (span_of ts i.from i.to) (told_node i.what)) o → is_some o ≡ true
          → told_node i.what ≡ told_by (the_item (option_map vItem.ModuleDecl o))
      go (Some it) at is = sym (ap told_by_item (out_decl it) ∙ at.told)
      go None at is = let bad : ⊥ = cc in absurd bad

  pub stmt_told : (i : Item) → None ≡ told_by (the_item (option_map vItem.Stmt (stmt_in (valued x ts i))))
  stmt_told i = go (stmt_in (valued x ts i))
    where
      go : (o : Option Stmt) → None ≡ told_by (the_item (option_map vItem.Stmt o))
      go (Some it) = sym (ap told_by_item (out_stmt it))
      go None = sym (ap told_by_item (out_stmt (vStmt.Debugger (record { start = 0; end = 0 }))))
