-- What is written of `export default` of an expression.
use Rattle.std.specs.Prelude.{ℕ, ◌+◌, Bool, true, false, List, [], ◌∷◌, ◌++◌, length, take, Option, Some, None, option_map}
use Rattle.std.proofs.Common.{◌≡◌, refl, sym, ap, subst, ◌∙◌}
use Rattle.base.specs.declared.range.Range.{Range}
use Rattle.es_token.specs.declared.token.Token.{Token}
use Rattle.es_ast.specs.declared.ts.leaf.Ident.{Ident}
use Rattle.es_ast.specs.declared.ts.ts.TsPart.TheVariants as vPart
use Rattle.es_ast.specs.declared.ts.ts.TsType.{TsType}
use Rattle.es_ast.specs.declared.ast.Expr.{Expr, out-Expr}
use Rattle.es_ast.specs.declared.ast.Expr.TheVariants as vExpr
use Rattle.es_ast.specs.declared.ast.ModuleDecl.{ModuleDecl}
use Rattle.es_ast.specs.declared.ast.ModuleDecl.TheVariants as vModule
use Rattle.es_ast.specs.declared.ast.ModuleItem.{ModuleItem}
use Rattle.es_ast.specs.declared.ast.ModuleItem.TheVariants as vItem
use Rattle.es_ast.specs.declared.ast.Pat.TheVariants as vPat
use Rattle.es_lowering.specs.Value.{Value, given, nil}
use Rattle.es_lowering.specs.Texts.{span_of}
use Rattle.es_lowering.specs.Lowering.{packed, item_by}
use Rattle.es_syntax.specs.declared.entry.What.TheVariants as vWhat
use Rattle.es_syntax.specs.declared.cursor.Item.{Item}
use Rattle.es_syntax.specs.Held.{valued}
use Rattle.es_syntax.specs.Roles.{item_in, ts_type_in}
use Rattle.es_changed.specs.declared.entry.Change.TheVariants as change
use Rattle.es_changed.specs.declared.entry.ChangedEntry.{ChangedEntry}
use Rattle.es_changed.specs.declared.entry.Form.TheVariants as form
use Rattle.es_changed.specs.Formed.{formed, made_const, made_symbol}
use Rattle.es_changed.specs.Shape.{closed, opened, Writes}
use Rattle.es_changed.proofs.Written.{both_written, form_written, gone_written, nothing_written, taken_open}
use Rattle.es_view_modules.specs.items.Export as export
use Rattle.dts_rules.specs.Made.{annotation, made_name, nowhere}
use Rattle.dts_rules.specs.Rules as rules
use Rattle.dts_rules.specs.Rules.{State, drawn}
use Rattle.dts_rules.specs.Programs as programs
use Rattle.dts_rules.specs.Programs.{shown_expr, with_const}
use Rattle.dts_draft.specs.declared.draft.Draft.{Draft}
use Rattle.dts_draft.specs.Drafts.{state_of}
use Rattle.dts_draft.specs.Written.{IfThere, PutsAll}
use Rattle.dts_draft.proofs.Lists.{puts_both}
use Rattle.dts_types.specs.Types.{asked, by_frozen, Answers}
use Rattle.dts_types.specs.declared.ask.Ask.{Ask}
use Rattle.dts_items.specs.Items.{item_turn, InTurn, ModuleDeclPuts}
use Rattle.dts_items.specs.Exports.{ConstPuts, DefaultExpr, NamePuts, PutsConst}
use Rattle.dts_items.proofs.NameLemmas.{IsName}
use Rattle.dts_items.proofs.RuleLemmas.{default_expr_is, default_name, default_other, IsNoName}
use Rattle.dts_items.proofs.TurnLemmas.{kept_item, module_by, turn_item}

module _ (x : List ℕ) (ts : List Token) where
  -- ---- `declare const` of a made name
  -- without a type all is taken back
  taken : (old outer inner named typed new : List ChangedEntry) (spot number : ℕ) → outer ≡ old ++ opened
      → spot ≡ length old → inner ≡ outer ++ opened
      → Writes x ts inner named (formed x ts form.MadeName number 0 nil ∷ []) → Writes x ts named typed []
      → new ≡ take spot typed → Writes x ts old new []
  taken old outer inner named typed new spot number eo es ei wn wt en =
      subst (λ (row : List ChangedEntry). Writes x ts old row [])
      (sym (en ∙ taken_open x ts spot old outer typed (formed x ts form.MadeName number 0 nil ∷ []) eo es
      (both_written x ts outer inner typed [] (formed x ts form.MadeName number 0 nil ∷ [])
      (gone_written x ts 0 0 outer inner ei)
      (both_written x ts inner named typed (formed x ts form.MadeName number 0 nil ∷ []) [] wn wt))))
      (nothing_written x ts old)

  module _ (by : rules.Env) (old outer inner named typed : Draft) (spot number : ℕ) (wrote : Bool)
      (eo : outer.row ≡ old.row ++ opened) (es : spot ≡ length old.row) (ei : inner.row ≡ outer.row ++ opened)
      (sb : state_of named ≡ state_of old)
      (wn : Writes x ts inner.row named.row (formed x ts form.MadeName number 0 nil ∷ [])) where
    no_const : (new : Draft) (p : Option TsType × State) → wrote ≡ false → Answers x ts named typed wrote p
        → new.row ≡ take spot typed.row → state_of new ≡ state_of typed → PutsConst x ts old new number false p
    no_const new (Some ty, s) e a en sn = let bad : ⊥ = cc (a.0) in absurd bad
    no_const new (None, s) e a en sn =
        (refl, sn ∙ a.1, taken old.row outer.row inner.row named.row typed.row new.row spot number eo es ei wn a.2 en)

    a_const : (closed_ new : Draft) (place : ℕ) (p : Option TsType × State) → wrote ≡ true
        → Answers x ts named typed wrote p → place ≡ length outer.row
        → closed_.row ≡ closed (change.Form form.DefaultConst) 0 0 place typed.row
        → new.row ≡ closed (change.Old vWhat.Parts) 0 0 spot closed_.row → state_of new ≡ state_of typed
        → PutsConst x ts old new number true p
    a_const closed_ new place (None, s) e a ep ec en sn = let bad : ⊥ = cc (a.0) in absurd bad
    a_const closed_ new place (Some ty, s) e a ep ec en sn = (
      refl,
      sn ∙ a.1,
      turn_item x ts
          (formed x ts form.DefaultConst 0 0 (packed (formed x ts form.MadeName number 0 nil ∷ a.2.value ∷ [])))
          (made_const (vPat.Ident (made_name (made_symbol number)) (annotation ty) nowhere)) spot old.row outer.row
          closed_.row new.row eo es
          (form_written x ts form.DefaultConst 0 0 place outer.row inner.row typed.row closed_.row
          (formed x ts form.MadeName number 0 nil ∷ a.2.value ∷ []) ei ep
          (both_written x ts inner.row named.row typed.row (formed x ts form.MadeName number 0 nil ∷ [])
          (a.2.value ∷ []) wn a.2.writes) ec) en
          (ap (λ (o : Option TsType). given o
          (λ ty. Some (made_const (vPat.Ident (made_name (made_symbol number)) (Some (vPart.TypeAnn ty)) nowhere))))
          a.2.is),
    )

    abbrev Asks : Ask → Type 0
    Asks ask = (ask.literal ≡ false) × (ask.readonly ≡ true) × (ask.frozen ≡ false)

    asks_is : (ask : Ask) (e : Expr) (s : State) → Asks ask → asked by ask e s ≡ (shown_expr by e).rule false true s
    asks_is ask e s a =
        ap (λ (b : Bool). by_frozen b ((shown_expr by e).rule ask.literal ask.readonly s)) a.2
        ∙ (ap (λ (b : Bool). (shown_expr by e).rule b ask.readonly s) a.0
        ∙ ap (λ (b : Bool). (shown_expr by e).rule false b s) a.1)

    ruled : (ask : Ask) (e : Expr) → Asks ask → Answers x ts named typed wrote (asked by ask e (state_of named))
        → Answers x ts named typed wrote ((shown_expr by e).rule false true (state_of old))
    ruled ask e a h =
        subst (Answers x ts named typed wrote) (asks_is ask e (state_of named) a
        ∙ ap (λ (s : State). (shown_expr by e).rule false true s) sb) h

    pub const_none : (new : Draft) (ask : Ask) (o : Option Expr) → Asks ask → wrote ≡ false
        → IfThere (λ e. Answers x ts named typed wrote (asked by ask e (state_of named))) o
        → new.row ≡ take spot typed.row → state_of new ≡ state_of typed
        → IfThere (ConstPuts x ts by old new number false) o
    const_none new ask None a e h en sn = record { is = tt }
    const_none new ask (Some it) a e h en sn = record {
      is = record {
        puts = no_const new ((shown_expr by it).rule false true (state_of old)) e (ruled ask it a h.is) en sn;
      };
    }

    pub const_some : (closed_ new : Draft) (place : ℕ) (ask : Ask) (o : Option Expr) → Asks ask → wrote ≡ true
        → IfThere (λ e. Answers x ts named typed wrote (asked by ask e (state_of named))) o
        → place ≡ length outer.row → closed_.row ≡ closed (change.Form form.DefaultConst) 0 0 place typed.row
        → new.row ≡ closed (change.Old vWhat.Parts) 0 0 spot closed_.row → state_of new ≡ state_of typed
        → IfThere (ConstPuts x ts by old new number true) o
    const_some closed_ new place ask None a e h ep ec en sn = record { is = tt }
    const_some closed_ new place ask (Some it) a e h ep ec en sn = record {
      is = record {
        puts = a_const closed_ new place ((shown_expr by it).rule false true (state_of old)) e (ruled ask it a h.is) ep
            ec en sn;
      };
    }

  -- ---- `export default` of it
  pub name_put : (old outer inner named skipped closed_ new : List ChangedEntry) (spot place number from to : ℕ)
      → outer ≡ old ++ opened → spot ≡ length old → inner ≡ outer ++ opened → place ≡ length outer
      → Writes x ts inner named (formed x ts form.MadeName number 0 nil ∷ []) → Writes x ts named skipped []
      → closed_ ≡ closed (change.Form form.DefaultName) from to place skipped
      → new ≡ closed (change.Old vWhat.Parts) 0 0 spot closed_ → NamePuts x ts old new number (span_of ts from to)
  name_put old outer inner named skipped closed_ new spot place number from to eo es ei ep wn wg ec en = record {
    puts = turn_item x ts
        (formed x ts form.DefaultName from to (packed (formed x ts form.MadeName number 0 nil ∷ [])))
        (vItem.ModuleDecl (vModule.ExportDefaultExpr (vExpr.Ident (made_name (made_symbol number)))
        (span_of ts from to)))
        spot old outer closed_ new eo es
        (form_written x ts form.DefaultName from to place outer inner skipped closed_
        (formed x ts form.MadeName number 0 nil ∷ []) ei ep
        (both_written x ts inner named skipped (formed x ts form.MadeName number 0 nil ∷ []) [] wn wg) ec) en refl;
  }

  -- ---- an expression that is no name
  module _ (by : rules.Env) where
    abbrev Rule : Expr → Range → ℕ → Option TsType × State → List ModuleItem × State
    Rule e r n p = with_const by e r (made_name (by.name n)) p

    both : (e : Expr) (r : Range) (mid new : Draft) (start : List ChangedEntry) (drawn_ : Draft) (number n : ℕ)
        (wrote : Bool) (p : Option TsType × State) → wrote ≡ true → PutsConst x ts drawn_ mid number wrote p
        → NamePuts x ts mid.row new.row number r → drawn_.row ≡ start → number ≡ n → state_of new ≡ state_of mid
        → by.name n ≡ made_symbol n
        → (state_of new ≡ (Rule e r n p).1) × PutsAll x ts item_turn start new.row (Rule e r n p).0
    both e r mid new start drawn_ number n wrote (None, s) w c d ed en sn names =
        let bad : ⊥ = cc (c.0) in absurd bad
    both e r mid new start drawn_ number n wrote (Some ty, s) w c d ed en sn names =
        let them : List ℕ → List ModuleItem = λ symbol.
        made_const (vPat.Ident (made_name symbol) (annotation ty) nowhere)
        ∷ vItem.ModuleDecl (vModule.ExportDefaultExpr (vExpr.Ident (made_name symbol)) r) ∷ [] in (
          sn ∙ c.1,
          subst (λ (row : List ChangedEntry). PutsAll x ts item_turn row new.row (them (by.name n))) ed
              (subst (λ (symbol : List ℕ). PutsAll x ts item_turn drawn_.row new.row (them symbol))
              (ap made_symbol en ∙ sym names)
              (puts_both x ts item_turn drawn_.row mid.row new.row
              (made_const (vPat.Ident (made_name (made_symbol number)) (annotation ty) nowhere) ∷ [])
              (vItem.ModuleDecl (vModule.ExportDefaultExpr (vExpr.Ident (made_name (made_symbol number))) r) ∷ [])
              c.2 d.puts)),
        )

    alone : (e : Expr) (r : Range) (mid new : Draft) (start : List ChangedEntry) (drawn_ : Draft) (number n : ℕ)
        (wrote : Bool) (p : Option TsType × State) → wrote ≡ false → PutsConst x ts drawn_ mid number wrote p
        → drawn_.row ≡ start → state_of new ≡ state_of mid
        → ((row : List ChangedEntry) → Writes x ts row mid.row []
        → PutsAll x ts item_turn row new.row (vItem.ModuleDecl (vModule.ExportDefaultExpr e r) ∷ []))
        → (state_of new ≡ (Rule e r n p).1) × PutsAll x ts item_turn start new.row (Rule e r n p).0
    alone e r mid new start drawn_ number n wrote (Some ty, s) w c ed sn kept = let bad : ⊥ = cc (c.0) in absurd bad
    alone e r mid new start drawn_ number n wrote (None, s) w c ed sn kept = (
      sn ∙ c.1,
      subst (λ (row : List ChangedEntry). PutsAll x ts item_turn row new.row
          (vItem.ModuleDecl (vModule.ExportDefaultExpr e r) ∷ [])) ed (kept drawn_.row c.2),
    )

    -- the rule goes from where a name was drawn
    from_drawn : (e : Expr) (r : Range) (old drawn_ new : Draft) → state_of drawn_ ≡ drawn (state_of old)
        → (state_of new ≡ (Rule e r (old.made + 1) ((shown_expr by e).rule false true (state_of drawn_))).1)
        × PutsAll x ts item_turn old.row new.row
        (Rule e r (old.made + 1) ((shown_expr by e).rule false true (state_of drawn_))).0
        → DefaultExpr x ts by old new r e
    from_drawn e r old drawn_ new sd h =
        let q : List ModuleItem × State =
        Rule e r (old.made + 1) ((shown_expr by e).rule false true (state_of drawn_)) in
        let is : q ≡ Rule e r (old.made + 1) ((shown_expr by e).rule false true (drawn (state_of old))) =
        ap (λ (s : State). Rule e r (old.made + 1) ((shown_expr by e).rule false true s)) sd in
        record {
          state = h.0 ∙ ap (λ (p : List ModuleItem × State). p.1) is;
          puts = subst (PutsAll x ts item_turn old.row new.row) (ap (λ (p : List ModuleItem × State). p.0) is) h.1;
        }

    pub default_made : (old drawn_ mid new : Draft) (number : ℕ) (wrote : Bool) (r : Range) (o : Option Expr)
        → wrote ≡ true → drawn_.row ≡ old.row → state_of drawn_ ≡ drawn (state_of old) → number ≡ old.made + 1
        → IfThere (ConstPuts x ts by drawn_ mid number wrote) o → NamePuts x ts mid.row new.row number r
        → state_of new ≡ state_of mid → by.name (old.made + 1) ≡ made_symbol (old.made + 1)
        → IfThere (DefaultExpr x ts by old new r) o
    default_made old drawn_ mid new number wrote r None w ed sd en c d sn names = record { is = tt }
    default_made old drawn_ mid new number wrote r (Some e) w ed sd en c d sn names = record {
      is = from_drawn e r old drawn_ new sd
          (both e r mid new old.row drawn_ number (old.made + 1) wrote
          ((shown_expr by e).rule false true (state_of drawn_)) w c.is.puts d ed en sn names);
    }

    pub default_stays : (turn it : Item) (old drawn_ mid new : Draft) (number : ℕ) (wrote : Bool) (r : Range)
        (o : Option Expr) → wrote ≡ false → drawn_.row ≡ old.row → state_of drawn_ ≡ drawn (state_of old)
        → IfThere (ConstPuts x ts by drawn_ mid number wrote) o → InTurn turn it
        → Writes x ts mid.row new.row (valued x ts turn ∷ []) → state_of new ≡ state_of mid
        → item_in (valued x ts it) ≡ item_by x ts (export.default_expr r o) None
        → IfThere (DefaultExpr x ts by old new r) o
    unfolding export.default_expr
    default_stays turn it old drawn_ mid new number wrote r None w ed sd c t wk sn ei = record { is = tt }
    default_stays turn it old drawn_ mid new number wrote r (Some e) w ed sd c t wk sn ei = record {
      is = from_drawn e r old drawn_ new sd
          (alone e r mid new old.row drawn_ number (old.made + 1) wrote
          ((shown_expr by e).rule false true (state_of drawn_)) w c.is.puts ed sn
          (λ row before. kept_item x ts turn it (vItem.ModuleDecl (vModule.ExportDefaultExpr e r)) row new.row t
          (both_written x ts row mid.row new.row [] (valued x ts turn ∷ []) before wk) ei));
    }

    -- ---- all expressions
    pub name_default : (top : Bool) (turn it : Item) (old new : Draft) (r : Range) (o : Option Expr) → InTurn turn it
        → Writes x ts old.row new.row (valued x ts turn ∷ []) → state_of new ≡ state_of old
        → item_in (valued x ts it) ≡ item_by x ts (export.default_expr r o) None → IfThere IsName o
        → IfThere (ModuleDeclPuts x ts by top old new) (export.default_expr r o)
    unfolding export.default_expr
    name_default top turn it old new r None t w sn ei known = record { is = tt }
    name_default top turn it old new r (Some e) t w sn ei known = record {
      is = module_by x ts by top old new (vModule.ExportDefaultExpr e r)
          (vItem.ModuleDecl (vModule.ExportDefaultExpr e r) ∷ [])
          (default_expr_is by top (state_of old) e r
          ∙ (default_name by (out-Expr e) known.is.id (e, shown_expr by e) r (state_of old) known.is.is
          ∙ ap (λ (s : State). (vItem.ModuleDecl (vModule.ExportDefaultExpr e r) ∷ [], s)) (sym sn)))
          (kept_item x ts turn it (vItem.ModuleDecl (vModule.ExportDefaultExpr e r)) old.row new.row t w ei);
    }

    pub other_default : (top : Bool) (old new : Draft) (r : Range) (o : Option Expr)
        → IfThere (λ e. IsNoName by (out-Expr e)) o → IfThere (DefaultExpr x ts by old new r) o
        → IfThere (ModuleDeclPuts x ts by top old new) (export.default_expr r o)
    unfolding export.default_expr
    other_default top old new r None known h = record { is = tt }
    other_default top old new r (Some e) known h =
        let is = default_expr_is by top (state_of old) e r
        ∙ default_other by (out-Expr e) (e, shown_expr by e) r (state_of old) known.is in
        record {
          is = record {
            state = h.is.state ∙ sym (ap (λ (p : List ModuleItem × State). p.1) is);
            puts = subst (PutsAll x ts item_turn old.row new.row) (sym (ap (λ (p : List ModuleItem × State). p.0) is))
                h.is.puts;
          };
        }
