-- The items of a program, one by one.
use Rattle.std.specs.Prelude.{Bool, true, false, Option, Some, None, option_map, map}
use Rattle.std.proofs.Common.{◌≡◌, ℕ, List, [], ◌∷◌, refl, sym, ap, subst, ◌∙◌}
use Rattle.es_token.specs.declared.token.Token.{Token}
use Rattle.es_ast.specs.declared.ast.Stmt.{Stmt}
use Rattle.es_ast.specs.declared.ast.ModuleDecl.{ModuleDecl}
use Rattle.es_ast.specs.declared.ast.ModuleItem.{ModuleItem}
use Rattle.es_ast.specs.declared.ast.ModuleItem.TheVariants as vItem
use Rattle.es_lowering.specs.Value.{Value, absent, nil, more, token, node, given, part, as_group, turns, item_at, stmt_at}
use Rattle.es_lowering.specs.Texts.{span_of}
use Rattle.es_lowering.specs.Lowering.{item_by}
use Rattle.es_syntax.specs.declared.entry.What.{What}
use Rattle.es_syntax.specs.declared.entry.What.TheVariants as vWhat
use Rattle.es_syntax.specs.declared.entry.Entry.{Entry}
use Rattle.es_syntax.specs.declared.cursor.Item.{Item}
use Rattle.es_syntax.specs.Held.{held, valued}
use Rattle.es_syntax.specs.Roles.{item_in, stmt_in}
use Rattle.es_program.specs.items.Items.{is_some, decl_in, the_item, the_items, item_of, items_in, is_decl_node}
use Rattle.es_program.proofs.items_lemmas.Decls.{no_decl, no_stmt}
use Rattle.es_program.proofs.items_lemmas.ReadLemmas.{stmt_node, decl_node, stmt_here, item_here, decl_here}

clash : {A : Type 0} → false ≡ true → A
clash e = let bad : ⊥ = cc in absurd bad

by_none : (x : List ℕ) (ts : List Token) (o : Option ModuleDecl) → item_by x ts o None ≡ option_map vItem.ModuleDecl o
by_none x ts (Some it) = refl
by_none x ts None = refl

some_map : {A B : Type 0} (f : A → B) (o : Option A) → is_some (option_map f o) ≡ is_some o
some_map f (Some a) = refl
some_map f None = refl

module _ (x : List ℕ) (ts : List Token) where
  -- ---- which of the two an item is
  decls : (w : What) (from to : ℕ) (p : Value) → is_decl_node w ≡ true
      → option_map vItem.ModuleDecl (decl_node x ts w from to p)
      ≡ item_by x ts (decl_node x ts w from to p) (stmt_node x ts w from to p)
  decls vWhat.Leaf from to p e = clash e
  decls (vWhat.Node label) from to p e =
      sym (ap (item_by x ts (decl_node x ts (vWhat.Node label) from to p)) (no_stmt x ts (span_of ts from to) p label e)
      ∙ by_none x ts (decl_node x ts (vWhat.Node label) from to p))
  decls (vWhat.Role label) from to p e = clash e
  decls vWhat.Parts from to p e = clash e
  decls (vWhat.Lean lean) from to p e = clash e

  stmts : (w : What) (from to : ℕ) (p : Value) → is_decl_node w ≡ false
      → option_map vItem.Stmt (stmt_node x ts w from to p)
      ≡ item_by x ts (decl_node x ts w from to p) (stmt_node x ts w from to p)
  stmts vWhat.Leaf from to p e = refl
  stmts (vWhat.Node label) from to p e =
      sym (ap (λ (o : Option ModuleDecl). item_by x ts o (stmt_node x ts (vWhat.Node label) from to p))
      (no_decl x ts (span_of ts from to) p label e))
  stmts (vWhat.Role label) from to p e = refl
  stmts vWhat.Parts from to p e = refl
  stmts (vWhat.Lean lean) from to p e = refl

  pub decl_item : (i : Item) → is_decl_node i.what ≡ true
      → option_map vItem.ModuleDecl (decl_in (valued x ts i)) ≡ item_in (valued x ts i)
  decl_item i e =
      ap (option_map vItem.ModuleDecl) (decl_here x ts i)
      ∙ decls i.what i.from i.to (held x ts i.parts.entries.now) e ∙ sym (item_here x ts i)

  pub stmt_item : (i : Item) → is_decl_node i.what ≡ false
      → option_map vItem.Stmt (stmt_in (valued x ts i)) ≡ item_in (valued x ts i)
  stmt_item i e =
      ap (option_map vItem.Stmt) (stmt_here x ts i)
      ∙ stmts i.what i.from i.to (held x ts i.parts.entries.now) e ∙ sym (item_here x ts i)

  pub decl_typed : (i : Item) → is_decl_node i.what ≡ true → is_some (item_in (valued x ts i)) ≡ true
      → is_some (decl_in (valued x ts i)) ≡ true
  decl_typed i e is =
      sym (some_map vItem.ModuleDecl (decl_in (valued x ts i))) ∙ ap is_some (decl_item i e) ∙ is

  pub stmt_typed : (i : Item) → is_decl_node i.what ≡ false → is_some (item_in (valued x ts i)) ≡ true
      → is_some (stmt_in (valued x ts i)) ≡ true
  stmt_typed i e is =
      sym (some_map vItem.Stmt (stmt_in (valued x ts i))) ∙ ap is_some (stmt_item i e) ∙ is

  pub script_typed : (v : Value) → is_some (item_of true v) ≡ true → is_some (stmt_in v) ≡ true
  script_typed v is = sym (some_map vItem.Stmt (stmt_in v)) ∙ is

  -- ---- turns
  abbrev pub listed : Option ModuleItem → Option (List ModuleItem) → Option (List ModuleItem)
  listed o others = given o (λ item. given others (λ items. Some (item ∷ items)))

  pub items_none : (b : Bool) (es : List Entry) → held x ts es ≡ nil → items_in b x ts es ≡ Some []
  unfolding items_in
  items_none b es e = ap (turns (λ turn. item_of b (part turn 0))) e

  pub items_some : (b : Bool) (es rest : List Entry) (v : Value) → held x ts es ≡ more v (held x ts rest)
      → items_in b x ts es ≡ listed (item_of b (part (as_group v) 0)) (items_in b x ts rest)
  unfolding items_in
  items_some b es rest v e = ap (turns (λ turn. item_of b (part turn 0))) e

  listed_first : (o : Option ModuleItem) (others : Option (List ModuleItem)) → is_some (listed o others) ≡ true
      → is_some o ≡ true
  listed_first (Some item) others e = refl
  listed_first None others e = e

  listed_rest : (o : Option ModuleItem) (others : Option (List ModuleItem)) → is_some (listed o others) ≡ true
      → is_some others ≡ true
  listed_rest (Some item) (Some items) e = refl
  listed_rest (Some item) None e = e
  listed_rest None others e = clash e

  pub first_typed : (b : Bool) (es rest : List Entry) (v : Value) → held x ts es ≡ more v (held x ts rest)
      → is_some (items_in b x ts es) ≡ true → is_some (item_of b (part (as_group v) 0)) ≡ true
  first_typed b es rest v e is =
      listed_first _ (items_in b x ts rest) (sym (ap is_some (items_some b es rest v e)) ∙ is)

  pub rest_typed : (b : Bool) (es rest : List Entry) (v : Value) → held x ts es ≡ more v (held x ts rest)
      → is_some (items_in b x ts es) ≡ true → is_some (items_in b x ts rest) ≡ true
  rest_typed b es rest v e is =
      listed_rest (item_of b (part (as_group v) 0)) _ (sym (ap is_some (items_some b es rest v e)) ∙ is)

  the_listed : (o : Option ModuleItem) (others : Option (List ModuleItem)) → is_some (listed o others) ≡ true
      → the_items (listed o others) ≡ the_item o ∷ the_items others
  the_listed (Some item) (Some items) e = refl
  the_listed (Some item) None e = clash e
  the_listed None others e = clash e

  pub the_none : (b : Bool) (es : List Entry) → held x ts es ≡ nil → the_items (items_in b x ts es) ≡ []
  the_none b es e = ap the_items (items_none b es e)

  pub the_some : (b : Bool) (es rest : List Entry) (v : Value) → held x ts es ≡ more v (held x ts rest)
      → is_some (items_in b x ts es) ≡ true
      → the_items (items_in b x ts es) ≡ the_item (item_of b (part (as_group v) 0)) ∷ the_items (items_in b x ts rest)
  the_some b es rest v e is =
      ap the_items (items_some b es rest v e)
      ∙ the_listed (item_of b (part (as_group v) 0)) (items_in b x ts rest)
      (sym (ap is_some (items_some b es rest v e)) ∙ is)

  pub nothing_typed : (b : Bool) → is_some (item_of b absent) ≡ true → ⊥
  nothing_typed true e = cc
  nothing_typed false e = cc

  -- ---- the statements of a script
  map_turns : (v : Value) → turns (λ turn. item_of true (part turn 0)) v
      ≡ option_map (map vItem.Stmt) (turns (λ turn. stmt_at turn 0) v)
  map_turns absent = refl
  map_turns nil = refl
  map_turns (token n) = refl
  map_turns (node from to m) = refl
  map_turns (more v vs) = go (stmt_at (as_group v) 0) (turns (λ turn. stmt_at turn 0) vs) _ (map_turns vs)
    where
      go : (o : Option Stmt) (rest : Option (List Stmt)) (others : Option (List ModuleItem))
          → others ≡ option_map (map vItem.Stmt) rest
          → listed (option_map vItem.Stmt o) others
          ≡ option_map (map vItem.Stmt) (given o (λ a. given rest (λ rest. Some (a ∷ rest))))
      go None rest others e = refl
      go (Some it) None others e = ap (listed (Some (vItem.Stmt it))) e
      go (Some it) (Some rest) others e = ap (listed (Some (vItem.Stmt it))) e

  pub script_items : (es : List Entry) (body : List Stmt) → turns (λ turn. stmt_at turn 0) (held x ts es) ≡ Some body
      → items_in true x ts es ≡ Some (map vItem.Stmt body)
  unfolding items_in
  script_items es body e = map_turns (held x ts es) ∙ ap (option_map (map vItem.Stmt)) e

  pub module_items : (es : List Entry) (body : List ModuleItem)
      → turns (λ turn. item_at turn 0) (held x ts es) ≡ Some body → items_in false x ts es ≡ Some body
  unfolding items_in
  module_items es body e = e
