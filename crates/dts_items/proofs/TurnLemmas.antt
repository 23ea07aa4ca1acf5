-- What is written of statements and items in their turns.
use Rattle.std.specs.Prelude.{ℕ, Bool, true, false, ◌&&◌, List, [], ◌∷◌, ◌++◌, length, map, Option, Some, None, option_map}
use Rattle.std.proofs.Common.{◌≡◌, refl, sym, ap, subst, ◌∙◌}
use Rattle.base.specs.declared.range.Range.{Range}
use Rattle.es_token.specs.declared.token.Token.{Token}
use Rattle.es_ast.specs.declared.ast.Decl.{Decl}
use Rattle.es_ast.specs.declared.ast.ModuleDecl.{ModuleDecl}
use Rattle.es_ast.specs.declared.ast.ModuleItem.{ModuleItem}
use Rattle.es_ast.specs.declared.ast.ModuleItem.TheVariants as vItem
use Rattle.es_ast.specs.declared.ast.Stmt.{Stmt}
use Rattle.es_ast.specs.declared.ast.Stmt.TheVariants as vStmt
use Rattle.es_lowering.specs.Value.{Value, nil, more, given, as_group, part, typed, turns, option_list, item_at, stmt_at}
use Rattle.es_lowering.specs.Lowering.{packed, item_by}
use Rattle.es_syntax.specs.declared.entry.What.TheVariants as vWhat
use Rattle.es_syntax.specs.declared.cursor.Item.{Item}
use Rattle.es_syntax.specs.Held.{valued}
use Rattle.es_syntax.specs.Roles.{decl_in, item_in, stmt_in}
use Rattle.es_changed.specs.declared.entry.Change.TheVariants as change
use Rattle.es_changed.specs.declared.entry.ChangedEntry.{ChangedEntry}
use Rattle.es_changed.specs.Shape.{closed, opened, Writes}
use Rattle.es_changed.proofs.Written.{group_written}
use Rattle.es_expr_spans.proofs.Given.{Of}
use Rattle.dts_rules.specs.Rules as rules
use Rattle.dts_rules.specs.Rules.{Run, ShownDecl, State, after, flat, in_turn}
use Rattle.dts_rules.specs.Ranges.{has_range}
use Rattle.dts_rules.specs.Programs as programs
use Rattle.dts_rules.specs.Programs.{shown_decl, shown_item, shown_module_decl, shown_stmt}
use Rattle.dts_draft.specs.declared.draft.Draft.{Draft}
use Rattle.dts_draft.specs.Drafts.{state_of}
use Rattle.dts_draft.specs.Written.{IfThere, PutsAll}
use Rattle.dts_draft.proofs.Lists.{puts_none, puts_both}
use Rattle.dts_items.specs.declared.sorts.Sort.TheVariants as sort
use Rattle.dts_items.specs.Sorts.{Sorted}
use Rattle.dts_items.specs.Decls.{DeclPuts}
use Rattle.dts_items.specs.Items.{as_items, item_turn, items_rule, stmt_turn, stmts_rule, InTurn, MadeList, ItemPuts, ItemsPut, ModuleDeclPuts, PutsStmt, StmtPuts, StmtsPut, TurnPuts}
use Rattle.dts_items.proofs.LabelLemmas.{Other}
use Rattle.dts_items.proofs.RuleLemmas.{as_lists, exported_is, item_of_module, item_of_stmt, stmt_of_decl, Keeps}

module _ (x : List ℕ) (ts : List Token) where
  -- ---- turns
  item_kept : (turn it : Item) → InTurn turn it → item_turn (valued x ts turn) ≡ item_in (valued x ts it)
  item_kept turn it t = ap item_in (t.is x ts)

  stmt_kept : (turn it : Item) → InTurn turn it → stmt_turn (valued x ts turn) ≡ stmt_in (valued x ts it)
  stmt_kept turn it t = ap stmt_in (t.is x ts)

  -- one that is kept
  pub kept_item : (turn it : Item) (i : ModuleItem) (old new : List ChangedEntry) → InTurn turn it
      → Writes x ts old new (valued x ts turn ∷ []) → item_in (valued x ts it) ≡ Some i
      → PutsAll x ts item_turn old new (i ∷ [])
  kept_item turn it i old new t w e = record {
    values = valued x ts turn ∷ [];
    writes = w;
    are = ap (λ o. o ∷ []) (item_kept turn it t ∙ e);
  }

  pub kept_stmt : (turn it : Item) (s : Stmt) (old new : List ChangedEntry) → InTurn turn it
      → Writes x ts old new (valued x ts turn ∷ []) → stmt_in (valued x ts it) ≡ Some s
      → item_in (valued x ts it) ≡ Some (vItem.Stmt s) → PutsStmt x ts old new (Some s)
  kept_stmt turn it s old new t w es ei = record {
    values = valued x ts turn ∷ [];
    writes = w;
    stmts = ap (λ o. o ∷ []) (stmt_kept turn it t ∙ es);
    items = ap (λ o. o ∷ []) (item_kept turn it t ∙ ei);
  }

  -- one that is written
  pub turn_item : (v : Value) (i : ModuleItem) (place : ℕ) (old begun mid new : List ChangedEntry)
      → begun ≡ old ++ opened → place ≡ length old → Writes x ts begun mid (v ∷ [])
      → new ≡ closed (change.Old vWhat.Parts) 0 0 place mid → item_in v ≡ Some i
      → PutsAll x ts item_turn old new (i ∷ [])
  turn_item v i place old begun mid new eo ep w en e = record {
    values = packed (v ∷ []) ∷ [];
    writes = group_written x ts 0 0 place old begun mid new (v ∷ []) eo ep w en;
    are = ap (λ o. o ∷ []) e;
  }

  turn_stmt : (v : Value) (s : Stmt) (place : ℕ) (old begun mid new : List ChangedEntry)
      → begun ≡ old ++ opened → place ≡ length old → Writes x ts begun mid (v ∷ [])
      → new ≡ closed (change.Old vWhat.Parts) 0 0 place mid → stmt_in v ≡ Some s → item_in v ≡ Some (vItem.Stmt s)
      → PutsStmt x ts old new (Some s)
  turn_stmt v s place old begun mid new eo ep w en es ei = record {
    values = packed (v ∷ []) ∷ [];
    writes = group_written x ts 0 0 place old begun mid new (v ∷ []) eo ep w en;
    stmts = ap (λ o. o ∷ []) es;
    items = ap (λ o. o ∷ []) ei;
  }

  -- nothing
  no_stmt : (old new : List ChangedEntry) → Writes x ts old new [] → PutsStmt x ts old new None
  no_stmt old new w = record { values = []; writes = w; stmts = refl; items = refl }

  pub no_items : (old new : List ChangedEntry) → Writes x ts old new [] → PutsAll x ts item_turn old new []
  no_items old new w = record { values = []; writes = w; are = refl }

  -- ---- by what the rules make
  stmt_by : (by : rules.Env) (top : Bool) (old new : Draft) (s : Stmt) (o : Option Stmt)
      → shown_stmt by s top (state_of old) ≡ (o, state_of new) → PutsStmt x ts old.row new.row o
      → StmtPuts x ts by top old new s
  stmt_by by top old new s o e p = record {
    state = sym (ap (λ (p : Option Stmt × State). p.1) e);
    puts = subst (PutsStmt x ts old.row new.row) (sym (ap (λ (p : Option Stmt × State). p.0) e)) p;
  }

  pub module_by : (by : rules.Env) (top : Bool) (old new : Draft) (it : ModuleDecl) (them : List ModuleItem)
      → shown_module_decl by it top (state_of old) ≡ (them, state_of new) → PutsAll x ts item_turn old.row new.row them
      → ModuleDeclPuts x ts by top old new it
  module_by by top old new it them e p = record {
    state = sym (ap (λ (p : List ModuleItem × State). p.1) e);
    puts = subst (PutsAll x ts item_turn old.row new.row) (sym (ap (λ (p : List ModuleItem × State). p.0) e)) p;
  }

  -- a declaration as a statement, by whether it is the body of overloads and whether it stays
  decl_by : (by : rules.Env) (top : Bool) (s : State) (d : Decl) (b stays : Bool)
      → ((shown_decl by d).is_function && by.implements (shown_decl by d).span) ≡ b → (shown_decl by d).stays ≡ stays
      → shown_stmt by (vStmt.Decl d) top s ≡ programs.stmt_decl by b stays (d, shown_decl by d) top s
  decl_by by top s d b stays eb es =
      stmt_of_decl by top s d
      ∙ (ap (λ (b : Bool). programs.stmt_decl by b (shown_decl by d).stays (d, shown_decl by d) top s) eb
      ∙ ap (λ (stays : Bool). programs.stmt_decl by b stays (d, shown_decl by d) top s) es)

  no_function : (by : rules.Env) (d : Decl) (r : Range) → (shown_decl by d).is_function ≡ false
      → ((shown_decl by d).is_function && by.implements r) ≡ false
  no_function by d r e = ap (λ (b : Bool). b && by.implements r) e

  -- one that stays
  pub stmt_stays : (by : rules.Env) (top : Bool) (old new : Draft) (turn it : Item) (o : Option Decl)
      → ((d : Decl) → ((shown_decl by d).is_function ≡ false) × ((shown_decl by d).stays ≡ true)
      → StmtPuts x ts by top old new (vStmt.Decl d)) → IfThere (λ d. ((shown_decl by d).is_function ≡ false)
      × ((shown_decl by d).stays ≡ true)) o → IfThere (λ d. StmtPuts x ts by top old new (vStmt.Decl d)) o
  stmt_stays by top old new turn it None each known = record { is = tt }
  stmt_stays by top old new turn it (Some d) each known = record { is = each d known.is }

  stays_at : (by : rules.Env) (top : Bool) (old new : Draft) (turn it : Item) (d : Decl) → InTurn turn it
      → Writes x ts old.row new.row (valued x ts turn ∷ []) → state_of new ≡ state_of old
      → stmt_in (valued x ts it) ≡ Some (vStmt.Decl d) → item_in (valued x ts it) ≡ Some (vItem.Stmt (vStmt.Decl d))
      → (shown_decl by d).is_function ≡ false → (shown_decl by d).stays ≡ true
      → StmtPuts x ts by top old new (vStmt.Decl d)
  stays_at by top old new turn it d t w sn es ei nf st =
      stmt_by by top old new (vStmt.Decl d) (Some (vStmt.Decl d))
      (decl_by by top (state_of old) d false true (no_function by d _ nf) st
      ∙ ap (λ (s : State). (Some (vStmt.Decl d), s)) (sym sn))
      (kept_stmt turn it (vStmt.Decl d) old.row new.row t w es ei)

  -- a statement of this declaration, as an item
  as_stmt : (it : Item) (o : Option Decl) (d : Decl) → decl_in (valued x ts it) ≡ o → o ≡ Some d
      → stmt_in (valued x ts it) ≡ option_map vStmt.Decl (decl_in (valued x ts it))
      → item_in (valued x ts it) ≡ option_map vItem.Stmt (stmt_in (valued x ts it))
      → (stmt_in (valued x ts it) ≡ Some (vStmt.Decl d)) × (item_in (valued x ts it) ≡ Some (vItem.Stmt (vStmt.Decl d)))
  as_stmt it o d e is es ei =
      let s : stmt_in (valued x ts it) ≡ Some (vStmt.Decl d) = es ∙ ap (option_map vStmt.Decl) (e ∙ is) in
      (s, ei ∙ ap (option_map vItem.Stmt) s)

  abbrev Unmoved : rules.Env → Decl → Type 0
  Unmoved by d = ((shown_decl by d).is_function ≡ false) × ((shown_decl by d).stays ≡ true)

  stays_there : (by : rules.Env) (top : Bool) (old new : Draft) (turn it : Item) → InTurn turn it
      → Writes x ts old.row new.row (valued x ts turn ∷ []) → state_of new ≡ state_of old
      → stmt_in (valued x ts it) ≡ option_map vStmt.Decl (decl_in (valued x ts it))
      → item_in (valued x ts it) ≡ option_map vItem.Stmt (stmt_in (valued x ts it))
      → IfThere (Unmoved by) (decl_in (valued x ts it))
      → IfThere (λ d. StmtPuts x ts by top old new (vStmt.Decl d)) (decl_in (valued x ts it))
  stays_there by top old new turn it t w sn es ei known = go (decl_in (valued x ts it)) refl known
    where
      go : (o : Option Decl) → decl_in (valued x ts it) ≡ o → IfThere (Unmoved by) o
          → IfThere (λ (d : Decl). StmtPuts x ts by top old new (vStmt.Decl d)) o
      go None e known = record { is = tt }
      go (Some d) e known =
          let both = as_stmt it (Some d) d e refl es ei in
          record { is = stays_at by top old new turn it d t w sn both.0 both.1 known.is.0 known.is.1 }

  pub type_stays : (by : rules.Env) (top : Bool) (old new : Draft) (turn it : Item) (r : Range) → InTurn turn it
      → Writes x ts old.row new.row (valued x ts turn ∷ []) → state_of new ≡ state_of old
      → stmt_in (valued x ts it) ≡ option_map vStmt.Decl (decl_in (valued x ts it))
      → item_in (valued x ts it) ≡ option_map vItem.Stmt (stmt_in (valued x ts it))
      → IfThere (Sorted sort.Type r) (decl_in (valued x ts it))
      → IfThere (λ d. StmtPuts x ts by top old new (vStmt.Decl d)) (decl_in (valued x ts it))
  type_stays by top old new turn it r t w sn es ei known =
      stays_there by top old new turn it t w sn es ei (go (decl_in (valued x ts it)) known)
    where
      go : (o : Option Decl) → IfThere (Sorted sort.Type r) o → IfThere (Unmoved by) o
      go None known = record { is = tt }
      go (Some d) known = let s = known.is.shows by in record { is = (s.0, s.1) }

  pub using_stays : (by : rules.Env) (top : Bool) (old new : Draft) (turn it : Item) (r : Range) → InTurn turn it
      → Writes x ts old.row new.row (valued x ts turn ∷ []) → state_of new ≡ state_of old
      → stmt_in (valued x ts it) ≡ option_map vStmt.Decl (decl_in (valued x ts it))
      → item_in (valued x ts it) ≡ option_map vItem.Stmt (stmt_in (valued x ts it))
      → IfThere (Sorted sort.Using r) (decl_in (valued x ts it))
      → IfThere (λ d. StmtPuts x ts by top old new (vStmt.Decl d)) (decl_in (valued x ts it))
  using_stays by top old new turn it r t w sn es ei known =
      stays_there by top old new turn it t w sn es ei (go (decl_in (valued x ts it)) known)
    where
      go : (o : Option Decl) → IfThere (Sorted sort.Using r) o → IfThere (Unmoved by) o
      go None known = record { is = tt }
      go (Some d) known = let s = known.is.shows by in record { is = (s.0, s.1) }

  -- one that doesn't
  abbrev Moved : rules.Env → Bool → Draft → Draft → Decl → Type 0
  Moved by top old new d = (shown_decl by d).stays ≡ false → TurnPuts x ts by top old new d

  pub decl_turn : (by : rules.Env) (top : Bool) (old begun mid new : Draft) (place : ℕ) (o : Option Decl)
      → begun.row ≡ old.row ++ opened → place ≡ length old.row → state_of begun ≡ state_of old
      → IfThere (λ d. (shown_decl by d).stays ≡ false → DeclPuts x ts by top begun mid d) o
      → new.row ≡ closed (change.Old vWhat.Parts) 0 0 place mid.row → state_of new ≡ state_of mid
      → IfThere (Moved by top old new) o
  decl_turn by top old begun mid new place None eo ep sb h en sn = record { is = tt }
  decl_turn by top old begun mid new place (Some d) eo ep sb h en sn = record { is = λ stays. go (h.is stays) }
    where
      go : DeclPuts x ts by top begun mid d → TurnPuts x ts by top old new d
      go p = record {
        it = p.it;
        declared = ap (λ (s : State). (shown_decl by d).declared top s) (sym sb)
            ∙ (p.declared ∙ ap (λ (s : State). (Some p.it, s)) (sym sn));
        puts = turn_stmt p.value (vStmt.Decl p.it) place old.row begun.row mid.row new.row eo ep p.writes en p.stmt
            p.item;
      }

  turn_at : (by : rules.Env) (top : Bool) (old new : Draft) (d : Decl)
      → ((shown_decl by d).is_function && by.implements (shown_decl by d).span) ≡ false
      → (shown_decl by d).stays ≡ false → TurnPuts x ts by top old new d → StmtPuts x ts by top old new (vStmt.Decl d)
  turn_at by top old new d eb es t =
      stmt_by by top old new (vStmt.Decl d) (Some (vStmt.Decl t.it))
      (decl_by by top (state_of old) d false false eb es
      ∙ ap (λ (p : Option Decl × State). after (λ d. option_map vStmt.Decl d) p) t.declared)
      t.puts

  pub other_turn : (by : rules.Env) (top : Bool) (old new : Draft) (r : Range) (o : Option Decl)
      → IfThere (Sorted sort.Other r) o → IfThere (Moved by top old new) o
      → IfThere (λ d. StmtPuts x ts by top old new (vStmt.Decl d)) o
  other_turn by top old new r None known h = record { is = tt }
  other_turn by top old new r (Some d) known h =
      let s = known.is.shows by in
      record { is = turn_at by top old new d (no_function by d _ s.0) s.1 (h.is s.1) }

  -- a function, by its range
  abbrev Functioned : rules.Env → Bool → Draft → Draft → Range → Decl → Type 0
  Functioned by top old new r d = Sorted sort.Function r d → StmtPuts x ts by top old new (vStmt.Decl d)

  listed_is : (by : rules.Env) (ranges : List Range) (r : Range) (d : Decl) (b : Bool)
      → ((r : Range) → by.implements r ≡ has_range ranges r) → has_range ranges r ≡ b → Sorted sort.Function r d
      → ((shown_decl by d).is_function && by.implements (shown_decl by d).span) ≡ b
  listed_is by ranges r d b over e s =
      ap (λ (b : Bool). b && by.implements (shown_decl by d).span) (s.shows by).0
      ∙ (ap by.implements (s.span_is by) ∙ (over r ∙ e))

  pub function_dropped : (by : rules.Env) (top : Bool) (old new : Draft) (ranges : List Range) (r : Range)
      (o : Option Decl) → ((r : Range) → by.implements r ≡ has_range ranges r) → has_range ranges r ≡ true
      → Writes x ts old.row new.row [] → state_of new ≡ state_of old → IfThere (Functioned by top old new r) o
  function_dropped by top old new ranges r None over e w sn = record { is = tt }
  function_dropped by top old new ranges r (Some d) over e w sn = record {
    is = λ s. stmt_by by top old new (vStmt.Decl d) None
        (decl_by by top (state_of old) d true (shown_decl by d).stays (listed_is by ranges r d true over e s) refl
        ∙ ap (λ (s : State). (None, s)) (sym sn)) (no_stmt old.row new.row w);
  }

  pub function_turn : (by : rules.Env) (top : Bool) (old new : Draft) (ranges : List Range) (r : Range)
      (o : Option Decl) → ((r : Range) → by.implements r ≡ has_range ranges r) → has_range ranges r ≡ false
      → IfThere (Moved by top old new) o → IfThere (Functioned by top old new r) o
  function_turn by top old new ranges r None over e h = record { is = tt }
  function_turn by top old new ranges r (Some d) over e h = record {
    is = λ s. turn_at by top old new d (listed_is by ranges r d false over e s) (s.shows by).1
        (h.is (s.shows by).1);
  }

  pub function_stmt : (by : rules.Env) (top : Bool) (old new : Draft) (r : Range) (o : Option Decl)
      → IfThere (Sorted sort.Function r) o → IfThere (Functioned by top old new r) o
      → IfThere (λ d. StmtPuts x ts by top old new (vStmt.Decl d)) o
  function_stmt by top old new r None known h = record { is = tt }
  function_stmt by top old new r (Some d) known h = record { is = h.is known.is }

  -- ---- statements
  pub decl_as_stmt : (by : rules.Env) (top : Bool) (old new : Draft) (o : Option Decl) (q : Option Stmt)
      → q ≡ option_map vStmt.Decl o → IfThere (λ d. StmtPuts x ts by top old new (vStmt.Decl d)) o
      → IfThere (StmtPuts x ts by top old new) q
  decl_as_stmt by top old new o q e h = subst (IfThere (StmtPuts x ts by top old new)) (sym e) (go o h)
    where
      go : (o : Option Decl) → IfThere (λ (d : Decl). StmtPuts x ts by top old new (vStmt.Decl d)) o
          → IfThere (StmtPuts x ts by top old new) (option_map vStmt.Decl o)
      go None h = record { is = tt }
      go (Some d) h = record { is = h.is }

  pub stmt_dropped : (by : rules.Env) (top : Bool) (old new : Draft) (o : Option Stmt) → Of (Other by) o
      → Writes x ts old.row new.row [] → state_of new ≡ state_of old → IfThere (StmtPuts x ts by top old new) o
  stmt_dropped by top old new None other w sn = record { is = tt }
  stmt_dropped by top old new (Some s) other w sn = record {
    is = stmt_by by top old new s None
        (other.is top (state_of old) ∙ ap (λ (s : State). (None, s)) (sym sn)) (no_stmt old.row new.row w);
  }

  -- ---- items
  items_are : (o : Option Stmt) (old new : List ChangedEntry) → PutsStmt x ts old new o
      → PutsAll x ts item_turn old new (as_items o)
  items_are o old new p = record { values = p.values; writes = p.writes; are = p.items }

  pub stmt_as_item : (by : rules.Env) (top : Bool) (old new : Draft) (o : Option Stmt) (q : Option ModuleItem)
      → q ≡ option_map vItem.Stmt o → IfThere (StmtPuts x ts by top old new) o
      → IfThere (ItemPuts x ts by top old new) q
  stmt_as_item by top old new o q e h = subst (IfThere (ItemPuts x ts by top old new)) (sym e) (go o h)
    where
      go : (o : Option Stmt) → IfThere (StmtPuts x ts by top old new) o
          → IfThere (ItemPuts x ts by top old new) (option_map vItem.Stmt o)
      go None h = record { is = tt }
      go (Some s) h = record {
        is = record {
          state = h.is.state ∙ sym (ap (λ (p : List ModuleItem × State). p.1) (item_of_stmt by top (state_of old) s));
          puts = subst (PutsAll x ts item_turn old.row new.row)
              (sym (ap (λ (p : List ModuleItem × State). p.0) (item_of_stmt by top (state_of old) s)))
              (items_are (shown_stmt by s top (state_of old)).0 old.row new.row h.is.puts);
        };
      }

  pub module_as_item : (by : rules.Env) (top : Bool) (old new : Draft) (o : Option ModuleDecl)
      (q : Option ModuleItem) → q ≡ item_by x ts o None → IfThere (ModuleDeclPuts x ts by top old new) o
      → IfThere (ItemPuts x ts by top old new) q
  module_as_item by top old new o q e h = subst (IfThere (ItemPuts x ts by top old new)) (sym e) (go o h)
    where
      go : (o : Option ModuleDecl) → IfThere (ModuleDeclPuts x ts by top old new) o
          → IfThere (ItemPuts x ts by top old new) (item_by x ts o None)
      go None h = record { is = tt }
      go (Some it) h = record {
        is = record {
          state = h.is.state ∙ sym
              (ap (λ (p : List ModuleItem × State). p.1) (item_of_module by top (state_of old) it));
          puts = subst (PutsAll x ts item_turn old.row new.row)
              (sym (ap (λ (p : List ModuleItem × State). p.0) (item_of_module by top (state_of old) it))) h.is.puts;
        };
      }

  pub no_stmt_made : (by : rules.Env) (top : Bool) (old new : Draft) (q : Option Stmt) → q ≡ None
      → IfThere (StmtPuts x ts by top old new) q
  no_stmt_made by top old new q e = subst (IfThere (StmtPuts x ts by top old new)) (sym e) (record { is = tt })

  -- the item of a turn
  pub turn_of_item : (by : rules.Env) (top : Bool) (old new : Draft) (g w v : Value) → g ≡ as_group w → part g 0 ≡ v
      → IfThere (ItemPuts x ts by top old new) (item_in v)
      → IfThere (ItemPuts x ts by top old new) (item_at (as_group w) 0)
  turn_of_item by top old new g w v eg ev h =
      subst (λ (v : Value). IfThere (ItemPuts x ts by top old new) (item_in v))
      (sym (ap (λ (g : Value). part g 0) (sym eg) ∙ ev)) h

  pub turn_of_stmt : (by : rules.Env) (top : Bool) (old new : Draft) (g w v : Value) → g ≡ as_group w → part g 0 ≡ v
      → IfThere (StmtPuts x ts by top old new) (stmt_in v)
      → IfThere (StmtPuts x ts by top old new) (stmt_at (as_group w) 0)
  turn_of_stmt by top old new g w v eg ev h =
      subst (λ (v : Value). IfThere (StmtPuts x ts by top old new) (stmt_in v))
      (sym (ap (λ (g : Value). part g 0) (sym eg) ∙ ev)) h

  -- ---- one after the other
  module _ {A B : Type 0} (role : Value → Option B) (f : A → Run (List B)) where
    abbrev pub Each : List A → Run (List B)
    Each them s = after (λ (all : List (List B)). flat all) (in_turn f them s)

    made_none : (old : Draft) → MadeList x ts role Each old old []
    made_none old = record { state = refl; puts = puts_none x ts role old.row }

    made_more : (old mid new : Draft) (it : A) (them : List A) → MadeList x ts role f old mid it
        → MadeList x ts role Each mid new them → MadeList x ts role Each old new (it ∷ them)
    made_more old mid new it them m h = record {
      state = h.state ∙ ap (λ (s : State). (Each them s).1) m.state;
      puts = puts_both x ts role old.row mid.row new.row (f it (state_of old)).0 (Each them (f it (state_of old)).1).0
          m.puts (subst (λ (s : State). PutsAll x ts role mid.row new.row (Each them s).0) m.state h.puts);
    }

    -- what is left leads to all
    pub record AllLeft (one : Value → Option A) (start now : Draft) (all left : Value) : Type 0 where
      pub leads : (new : Draft) → IfThere (MadeList x ts role Each now new) (turns one left)
          → IfThere (MadeList x ts role Each start new) (turns one all)

    pub left_all : (one : Value → Option A) (start : Draft) (all : Value) → AllLeft one start start all all
    left_all one start all = record { leads = λ new h. h }

    more_left : (old mid new : Draft) (o : Option A) (os : Option (List A)) → IfThere (MadeList x ts role f old mid) o
        → IfThere (MadeList x ts role Each mid new) os
        → IfThere (MadeList x ts role Each old new) (given o (λ a. given os (λ rest. Some (a ∷ rest))))
    more_left old mid new None os m h = record { is = tt }
    more_left old mid new (Some a) None m h = record { is = tt }
    more_left old mid new (Some a) (Some them) m h = record { is = made_more old mid new a them m.is h.is }

    pub left_next : (one : Value → Option A) (start now next : Draft) (all left v rest : Value) → left ≡ more v rest
        → AllLeft one start now all left → IfThere (MadeList x ts role f now next) (one (as_group v))
        → AllLeft one start next all rest
    left_next one start now next all left v rest e before m = record {
      leads = λ new h.
          before.leads new (subst (λ (w : Value). IfThere (MadeList x ts role Each now new) (turns one w)) (sym e)
          (more_left now next new (one (as_group v)) (turns one rest) m h));
    }

    pub left_done : (one : Value → Option A) (start now : Draft) (all left : Value) → left ≡ nil
        → AllLeft one start now all left → IfThere (MadeList x ts role Each start now) (turns one all)
    left_done one start now all left e before =
        before.leads now (subst (λ (w : Value). IfThere (MadeList x ts role Each now now) (turns one w)) (sym e)
        (record { is = made_none now }))

  -- a statement, or none, as a list
  abbrev pub stmt_list : rules.Env → Bool → Stmt → Run (List Stmt)
  stmt_list by top it s = after option_list (shown_stmt by it top s)

  pub stmt_listed : (by : rules.Env) (top : Bool) (old new : Draft) (o : Option Stmt)
      → IfThere (StmtPuts x ts by top old new) o → IfThere (MadeList x ts stmt_turn (stmt_list by top) old new) o
  stmt_listed by top old new None h = record { is = tt }
  stmt_listed by top old new (Some it) h = record {
    is = record {
      state = h.is.state;
      puts = record { values = h.is.puts.values; writes = h.is.puts.writes; are = h.is.puts.stmts };
    };
  }

  pub stmts_put : (by : rules.Env) (top : Bool) (old new : Draft) (o : Option (List Stmt))
      → IfThere (MadeList x ts stmt_turn (Each stmt_turn (stmt_list by top)) old new) o
      → IfThere (StmtsPut x ts by top old new) o
  stmts_put by top old new None h = record { is = tt }
  stmts_put by top old new (Some them) h =
      let e : Each stmt_turn (stmt_list by top) them (state_of old) ≡ stmts_rule by top them (state_of old) =
      as_lists (λ (it : Stmt). shown_stmt by it top) them (state_of old) in
      record {
        is = record {
          state = h.is.state ∙ ap (λ (p : List Stmt × State). p.1) e;
          puts = subst (PutsAll x ts stmt_turn old.row new.row) (ap (λ (p : List Stmt × State). p.0) e) h.is.puts;
        };
      }
