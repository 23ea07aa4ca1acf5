-- Keys of members, and what is written of them.
use Rattle.std.specs.Prelude.{ℕ, ◌+◌, Bool, true, false, List, [], ◌∷◌, ◌++◌, Option, Some, None, option_map, if◌then◌else◌, length, slice_get}
use Rattle.std.proofs.Common.{◌≡◌, refl, sym, ap, subst, ◌∙◌}
use Rattle.std.proofs.lemmas.Bool.{true≢false}
use Rattle.es_token.specs.declared.token.Token.{Token}
use Rattle.es_grammar.specs.declared.rows.NodeKind.TheVariants as l
use Rattle.es_ast.specs.declared.ts.leaf.Ident.{Ident}
use Rattle.es_ast.specs.declared.leaf.Lit.{Lit}
use Rattle.es_ast.specs.declared.leaf.Lit.TheVariants as vLit
use Rattle.es_ast.specs.declared.ast.Expr.{Expr, out-Expr}
use Rattle.es_ast.specs.declared.ast.Expr.TheVariants as vExpr
use Rattle.es_lowering.specs.Value.{Value, nil, token, given}
use Rattle.es_lowering.specs.Texts.{span_of, ident_of, str_of, numeric_of, private_of}
use Rattle.es_lowering.specs.Functions as functions
use Rattle.es_lowering.specs.Functions.{Key}
use Rattle.es_lowering.specs.Expressions as exprs
use Rattle.es_lowering.specs.Lowering.{packed, build, key_of, expr_of}
use Rattle.es_syntax.specs.declared.entry.What.TheVariants as vWhat
use Rattle.es_syntax.specs.declared.cursor.Item.{Item}
use Rattle.es_syntax.specs.Held.{node_of, valued}
use Rattle.es_syntax.specs.Roles.{expr_in, key_in, post_in}
use Rattle.es_changed.specs.declared.entry.Change.TheVariants as change
use Rattle.es_changed.specs.declared.entry.ChangedEntry.{ChangedEntry}
use Rattle.es_changed.specs.Shape.{closed, opened, Writes}
use Rattle.es_changed.proofs.Written.{both_written, node_written}
use Rattle.es_expr_spans.proofs.Spans.{out_Ident, out_Lit, out_PrivateName}
use Rattle.es_view_expressions.specs.call.Call as call
use Rattle.es_view_expressions.specs.member.Key as key_view
use Rattle.dts_rules.specs.Rules as rules
use Rattle.dts_rules.specs.Programs.{is_private_key, shown_expr}
use Rattle.dts_draft.specs.Written.{IfThere}
use Rattle.dts_draft.proofs.There.{made as made_there}
use Rattle.dts_member_keys.specs.declared.keys.MemberKey.{MemberKey}
use Rattle.dts_member_keys.specs.declared.keys.MemberKey.TheVariants as shown
use Rattle.dts_member_keys.specs.Keys.{key_rule, is_dropped, SameKey, Tells, KeyPut, IsSymbolChain}

module _ (by : rules.Env) (x : List ℕ) (ts : List Token) where
  -- ---- keys that stay
  kept_key : (e : Expr) → is_private_key (out-Expr e) ≡ false → key_rule by (false, e) ≡ Some (false, e)
  kept_key e no_ = ap (λ (b : Bool). if b then None else Some (false, e)) no_

  kept_by : (i : Item) (o : Option Key) → key_in (valued x ts i) ≡ o → IfThere (λ k. key_rule by k ≡ Some k) o
      → IfThere (λ k. Tells x ts (shown.Kept i) (key_rule by k)) o
  kept_by i None is h = record { is = tt }
  kept_by i (Some k) is h = record { is = record { key = k; there = is; is = h.is } }

  kept_told : (i : Item) (o : Option Key) → key_in (valued x ts i) ≡ o → IfThere (λ k. key_rule by k ≡ Some k) o
      → IfThere (λ k. Tells x ts (shown.Kept i) (key_rule by k)) (key_in (valued x ts i))
  kept_told i o is h =
      kept_by i (key_in (valued x ts i)) refl
      (subst (λ (o : Option Key). IfThere (λ k. key_rule by k ≡ Some k) o) (sym is) h)

  pub word_told : (i : Item) (o : Option Token) → key_in (valued x ts i) ≡ key_view.word x o
      → IfThere (λ k. Tells x ts (shown.Kept i) (key_rule by k)) (key_in (valued x ts i))
  unfolding key_view.word
  word_told i o is =
      kept_told i _ is (made_there (λ k. key_rule by k ≡ Some k) (λ (t : Token). (false, vExpr.Ident (ident_of x t))) o
      (λ t. kept_key _ (ap is_private_key (out_Ident (ident_of x t)))))

  pub str_told : (i : Item) (o : Option Token) → key_in (valued x ts i) ≡ key_view.str x o
      → IfThere (λ k. Tells x ts (shown.Kept i) (key_rule by k)) (key_in (valued x ts i))
  unfolding key_view.str
  str_told i o is =
      kept_told i _ is (made_there (λ k. key_rule by k ≡ Some k)
      (λ (t : Token). (false, vExpr.Lit (vLit.Str (str_of x t)))) o
      (λ t. kept_key _ (ap is_private_key (out_Lit (vLit.Str (str_of x t))))))

  pub number_told : (i : Item) (o : Option Token) → key_in (valued x ts i) ≡ key_view.number x o
      → IfThere (λ k. Tells x ts (shown.Kept i) (key_rule by k)) (key_in (valued x ts i))
  unfolding key_view.number
  number_told i o is =
      kept_told i _ is (made_there (λ k. key_rule by k ≡ Some k) (λ (lit : Lit). (false, vExpr.Lit lit))
      (given o (numeric_of x)) (λ lit. kept_key _ (ap is_private_key (out_Lit lit))))

  -- ---- `#a`
  pub private_told : (o : Option Token)
      → IfThere (λ k. Tells x ts shown.Dropped (key_rule by k)) (key_view.private x o)
  unfolding key_view.private
  private_told o =
      made_there (λ k. key_rule by k ≡ None) (λ (name : Ident). (false, vExpr.PrivateName name)) (given o (private_of x))
      (λ name. ap (λ (b : Bool). if b then None else Some (false, vExpr.PrivateName name))
      (ap is_private_key (out_PrivateName name)))

  -- ---- in brackets
  pub computed_told : (it : MemberKey) (o : Option Expr)
      → IfThere (λ e. Tells x ts it (shown_expr by e).key) o
      → IfThere (λ k. Tells x ts it (key_rule by k)) (key_view.computed o)
  unfolding key_view.computed
  computed_told it None h = record { is = tt }
  computed_told it (Some e) h = record { is = h.is }

  pub broken_told : (o : Option Key) → IfThere (λ k. Tells x ts shown.Broken (key_rule by k)) o
  broken_told None = record { is = tt }
  broken_told (Some k) = record { is = tt }

-- ---- whether the member goes
pub dropped_none : (x : List ℕ) (ts : List Token) (it : MemberKey) (o : Option Key) → is_dropped it ≡ true
    → Tells x ts it o → o ≡ None
dropped_none x ts (shown.Kept i) o e h = absurd (true≢false (sym e))
dropped_none x ts (shown.Name i) o e h = absurd (true≢false (sym e))
dropped_none x ts (shown.Symbol chain base first) o e h = absurd (true≢false (sym e))
dropped_none x ts (shown.Str at) o e h = absurd (true≢false (sym e))
dropped_none x ts (shown.Number at) o e h = absurd (true≢false (sym e))
dropped_none x ts shown.Dropped o e h = h
dropped_none x ts shown.Broken o e h = absurd (true≢false (sym e))

-- ---- what is written
module _ (x : List ℕ) (ts : List Token) where
  put : (old new : List ChangedEntry) (a b : Option Key) (v : Value) → Writes x ts old new (v ∷ []) → key_in v ≡ a
      → SameKey a b → KeyPut x ts old new b
  put old new a b v w is same = record {
    key = same.key;
    is = same.is;
    puts = record { value = v; writes = w; is = is ∙ same.there };
  }

  pub kept_put : (old new : List ChangedEntry) (i : Item) (o : Option Key) → Writes x ts old new (valued x ts i ∷ [])
      → Tells x ts (shown.Kept i) o → KeyPut x ts old new o
  kept_put old new i o w same = put old new _ o (valued x ts i) w refl same

  computed_in : (from to : ℕ) (v : Value) → key_in (node_of x ts l.ComputedKey from to (packed (v ∷ [])))
      ≡ key_view.computed (expr_in v)
  unfolding build key_of functions.computed_key key_view.computed
  computed_in from to v = refl

  -- opened, what is gone, an expression, what is gone, closed
  bracketed : (old begun gone filled after new : List ChangedEntry) (place from to : ℕ) (v : Value)
      → begun ≡ old ++ opened → place ≡ length old → Writes x ts begun gone [] → Writes x ts gone filled (v ∷ [])
      → Writes x ts filled after [] → new ≡ closed (change.Old (vWhat.Node l.ComputedKey)) from to place after
      → Writes x ts old new (node_of x ts l.ComputedKey from to (packed (v ∷ [])) ∷ [])
  bracketed old begun gone filled after new place from to v eo ep g w d e =
      node_written x ts l.ComputedKey from to place old begun after new (v ∷ []) eo ep
      (both_written x ts begun gone after [] (v ∷ []) g (both_written x ts gone filled after (v ∷ []) [] w d)) e

  pub name_put : (old begun gone filled after new : List ChangedEntry) (place from to : ℕ) (name : Item) (o : Option Key)
      → begun ≡ old ++ opened → place ≡ length old → Writes x ts begun gone []
      → Writes x ts gone filled (valued x ts name ∷ []) → Writes x ts filled after []
      → new ≡ closed (change.Old (vWhat.Node l.ComputedKey)) from to place after → Tells x ts (shown.Name name) o
      → KeyPut x ts old new o
  name_put old begun gone filled after new place from to name o eo ep g w d e same =
      put old new _ o _ (bracketed old begun gone filled after new place from to (valued x ts name) eo ep g w d e)
      (computed_in from to (valued x ts name)) same

  chain_in : (from to : ℕ) (base first : Value) → expr_in (node_of x ts l.Chain from to (packed (base ∷ first ∷ nil ∷ [])))
      ≡ call.chained_of (span_of ts from to) (expr_in base) (post_in first) nil
  unfolding build expr_of exprs.chain call.chained_of
  chain_in from to base first = refl

  pub chain_written : (old begun one two three after new : List ChangedEntry) (place : ℕ) (chain base first : Item)
      → begun ≡ old ++ opened → place ≡ length old → Writes x ts begun one (valued x ts base ∷ [])
      → Writes x ts one two (valued x ts first ∷ []) → Writes x ts two three (nil ∷ []) → Writes x ts three after []
      → new ≡ closed (change.Old (vWhat.Node l.Chain)) chain.from chain.to place after
      → IsSymbolChain x ts old new chain base first
  chain_written old begun one two three after new place chain base first eo ep a b c d e = record {
    value = node_of x ts l.Chain chain.from chain.to (packed (valued x ts base ∷ valued x ts first ∷ nil ∷ []));
    writes = node_written x ts l.Chain chain.from chain.to place old begun after new
        (valued x ts base ∷ valued x ts first ∷ nil ∷ []) eo ep
        (both_written x ts begun one after (valued x ts base ∷ []) (valued x ts first ∷ nil ∷ []) a
        (both_written x ts one two after (valued x ts first ∷ []) (nil ∷ []) b
        (both_written x ts two three after (nil ∷ []) [] c d))) e;
    is = chain_in chain.from chain.to (valued x ts base) (valued x ts first);
  }

  pub symbol_put : (old begun gone filled after new : List ChangedEntry) (place from to : ℕ) (chain base first : Item)
      (o : Option Key) → begun ≡ old ++ opened → place ≡ length old → Writes x ts begun gone []
      → IsSymbolChain x ts gone filled chain base first → Writes x ts filled after []
      → new ≡ closed (change.Old (vWhat.Node l.ComputedKey)) from to place after
      → Tells x ts (shown.Symbol chain base first) o → KeyPut x ts old new o
  symbol_put old begun gone filled after new place from to chain base first o eo ep g w d e same =
      put old new _ o _ (bracketed old begun gone filled after new place from to w.value eo ep g w.writes d e)
      (computed_in from to w.value ∙ ap key_view.computed w.is) same

  -- ---- literals
  str_in : (from to at : ℕ) → key_in (node_of x ts l.StrKey from to (packed (token at ∷ [])))
      ≡ key_view.str x (slice_get ts at)
  unfolding build key_of functions.str_key key_view.str
  str_in from to at = go (slice_get ts at)
    where
      go : (o : Option Token) → option_map {U = Key} (λ s. (false, vExpr.Lit (vLit.Str s))) (option_map (str_of x) o)
          ≡ option_map {U = Key} (λ t. (false, vExpr.Lit (vLit.Str (str_of x t)))) o
      go None = refl
      go (Some t) = refl

  number_in : (from to at : ℕ) → key_in (node_of x ts l.NumberKey from to (packed (token at ∷ [])))
      ≡ key_view.number x (slice_get ts at)
  unfolding build key_of functions.number_key key_view.number
  number_in from to at = refl

  literal : (old gone filled new : List ChangedEntry) (v : Value) → Writes x ts old gone []
      → Writes x ts gone filled (v ∷ []) → Writes x ts filled new [] → Writes x ts old new (v ∷ [])
  literal old gone filled new v g w d =
      both_written x ts old gone new [] (v ∷ []) g (both_written x ts gone filled new (v ∷ []) [] w d)

  pub str_put : (old gone filled new : List ChangedEntry) (at : ℕ) (o : Option Key) → Writes x ts old gone []
      → Writes x ts gone filled (node_of x ts l.StrKey at (at + 1) (packed (token at ∷ [])) ∷ [])
      → Writes x ts filled new [] → Tells x ts (shown.Str at) o → KeyPut x ts old new o
  str_put old gone filled new at o g w d same =
      put old new _ o _ (literal old gone filled new _ g w d) (str_in at (at + 1) at) same

  pub number_put : (old gone filled new : List ChangedEntry) (at : ℕ) (o : Option Key) → Writes x ts old gone []
      → Writes x ts gone filled (node_of x ts l.NumberKey at (at + 1) (packed (token at ∷ [])) ∷ [])
      → Writes x ts filled new [] → Tells x ts (shown.Number at) o → KeyPut x ts old new o
  number_put old gone filled new at o g w d same =
      put old new _ o _ (literal old gone filled new _ g w d) (number_in at (at + 1) at) same
