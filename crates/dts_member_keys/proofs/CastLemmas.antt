-- What casts and operators make of a key.
use Rattle.std.specs.Prelude.{ℕ, ◌&&◌, Bool, true, false, List, [], ◌∷◌, Option, Some, None, option_map, if◌then◌else◌}
use Rattle.std.proofs.Common.{◌≡◌, refl, sym, ap, subst, ◌∙◌}
use Rattle.base.specs.declared.range.Range.{Range}
use Rattle.es_token.specs.declared.token.Token.{Token}
use Rattle.es_token.specs.declared.token.TokenKind.{TokenKind}
use Rattle.es_token.specs.declared.token.TokenKind.TheVariants as k
use Rattle.grammar_theory.specs.Key.{same_kind}
use Rattle.es_ast.specs.declared.leaf.BinaryOp.{BinaryOp}
use Rattle.es_ast.specs.declared.ts.ts.TsPart.{TsPart}
use Rattle.es_ast.specs.declared.ts.ts.TsPart.TheVariants as vPart
use Rattle.es_ast.specs.declared.ts.ts.TsType.{TsType}
use Rattle.es_ast.specs.declared.ast.Expr.{Expr, roll-Expr}
use Rattle.es_ast.specs.declared.ast.Expr.TheVariants as vExpr
use Rattle.es_ast.specs.declared.ast.ClassMember.TheOpen.{Expr-F}
use Rattle.es_site.specs.Parts.{Whole}
use Rattle.es_lowering.specs.Value.{Value, absent, nil, more, token, node, given, part, as_group, group, first_of, behind}
use Rattle.es_lowering.specs.Texts.{span_of, kind_at}
use Rattle.es_lowering.specs.Functions.{Key}
use Rattle.es_lowering.specs.Operators.{binary_between}
use Rattle.es_lowering.specs.Expressions as exprs
use Rattle.es_lowering.specs.TypedExpressions as typed
use Rattle.es_lowering.specs.TypedExpressions.{asserted_by, turned_by}
use Rattle.es_lowering.specs.Lowering.{build, expr_of}
use Rattle.es_syntax.specs.declared.entry.Lean.{Lean}
use Rattle.es_syntax.specs.declared.entry.Lean.TheVariants as vLean
use Rattle.es_syntax.specs.Held.{Held, leaning, leaned, leant}
use Rattle.es_syntax.specs.Roles.{expr_in}
use Rattle.dts_rules.specs.Rules as rules
use Rattle.dts_rules.specs.Rules.{Shown, in_expr}
use Rattle.dts_rules.specs.Programs.{shown_expr}
use Rattle.dts_rules.proofs.Shown.{beside_expr}
use Rattle.dts_draft.specs.Written.{IfThere}
use Rattle.dts_leaves.proofs.Shown.{shown_by}
use Rattle.dts_member_keys.specs.Looks.{kept, KeyIs, Sees, Turned, LeanTurned, Leaned}

module _ (by : rules.Env) where
  pub key_by : (it : Expr) (w : Whole Expr-F) → roll-Expr w ≡ it
      → (shown_expr by it).key ≡ (in_expr by (beside_expr by w)).key
  key_by it w rolls = ap (λ (s : Shown). s.key) (shown_by by it w rolls)

  -- ---- each form
  const_key : (e : Expr) (r : Range) → (shown_expr by (vExpr.TsConstAssertion e r)).key ≡ (shown_expr by e).key
  const_key e r = key_by _ (Expr-F.TsConstAssertion e r) (vExpr.rolls-TsConstAssertion e r)

  as_key : (e : Expr) (ty : Option TsPart) (r : Range)
      → (shown_expr by (vExpr.TsAs e ty r)).key ≡ (shown_expr by e).key
  as_key e ty r = key_by _ (Expr-F.TsAs e ty r) (vExpr.rolls-TsAs e ty r)

  satisfies_key : (e : Expr) (ty : Option TsPart) (r : Range)
      → (shown_expr by (vExpr.TsSatisfies e ty r)).key ≡ (shown_expr by e).key
  satisfies_key e ty r = key_by _ (Expr-F.TsSatisfies e ty r) (vExpr.rolls-TsSatisfies e ty r)

  bin_key : (op : BinaryOp) (left right : Expr) (r : Range) → (shown_expr by (vExpr.Bin op left right r)).key ≡ None
  bin_key op left right r = key_by _ (Expr-F.Bin op left right r) (vExpr.rolls-Bin op left right r)

  -- ---- after a word
  typed_key : (kind : TokenKind) (e : Expr) (r : Range) (ty : Option TsType)
      → IfThere (KeyIs by (shown_expr by e).key) (option_map (λ ty. if same_kind kind k.AsWord
      then vExpr.TsAs e (Some (vPart.TypeAnn ty)) r else vExpr.TsSatisfies e (Some (vPart.TypeAnn ty)) r) ty)
  typed_key kind e r None = record { is = tt }
  typed_key kind e r (Some ty) = record { is = go (same_kind kind k.AsWord) }
    where
      go : (b : Bool) → (shown_expr by (if b then vExpr.TsAs e (Some (vPart.TypeAnn ty)) r
          else vExpr.TsSatisfies e (Some (vPart.TypeAnn ty)) r)).key ≡ (shown_expr by e).key
      go true = as_key e (Some (vPart.TypeAnn ty)) r
      go false = satisfies_key e (Some (vPart.TypeAnn ty)) r

  pub asserted_key : (kind : TokenKind) (e : Expr) (r : Range) (v : Value)
      → IfThere (KeyIs by (shown_expr by e).key) (asserted_by r e kind v)
  asserted_key kind e r (token n) = record { is = const_key e r }
  asserted_key kind e r (node from to m) = typed_key kind e r m.ts_type
  asserted_key kind e r absent = record { is = tt }
  asserted_key kind e r nil = record { is = tt }
  asserted_key kind e r (more v vs) = record { is = tt }

  -- ---- a turn
  none_there : (key : Option Key) (o : Option Expr) → o ≡ None → IfThere (KeyIs by key) o
  none_there key o e = subst (λ (o : Option Expr). IfThere (KeyIs by key) o) (sym e) (record { is = tt })

  bin_there : (key : Option Key) (e : Expr) (r : Range) (op : Option BinaryOp) (q : Option Expr) → key ≡ None
      → IfThere (KeyIs by key) (given op (λ op. given q (λ right. Some (vExpr.Bin op e right r))))
  bin_there key e r None q is = record { is = tt }
  bin_there key e r (Some op) None is = record { is = tt }
  bin_there key e r (Some op) (Some q) is = record { is = bin_key op e q r ∙ sym is }

  -- whatever stands after a right operand that is not there
  no_operand : (key : Option Key) (e : Expr) (r : Range) (op : Option BinaryOp) (q : Option Expr) → q ≡ None
      → IfThere (KeyIs by key) (given op (λ op. given q (λ right. Some (vExpr.Bin op e right r))))
  no_operand key e r None q is = record { is = tt }
  no_operand key e r (Some op) None is = record { is = tt }
  no_operand key e r (Some op) (Some q) is = let bad : ⊥ = cc in absurd bad

  operand_by : (key : Option Key) (ts : List Token) (e : Expr) (r : Range) (from : ℕ) (g v : Value) → as_group v ≡ nil
      → key ≡ None → IfThere (KeyIs by key) (turned_by ts r e from g v)
  operand_by key ts e r from g (more v vs) none is = absurd (different none)
    where
      different : more v vs ≡ nil → ⊥
      different e = cc
  operand_by key ts e r from g absent none is =
      bin_there key e r (binary_between ts from (first_of absent)) (expr_in (part g 1)) is
  operand_by key ts e r from g nil none is =
      bin_there key e r (binary_between ts from (first_of nil)) (expr_in (part g 1)) is
  operand_by key ts e r from g (token n) none is =
      bin_there key e r (binary_between ts from (first_of (token n))) (expr_in (part g 1)) is
  operand_by key ts e r from g (node a b m) none is =
      bin_there key e r (binary_between ts from (first_of (node a b m))) (expr_in (part g 1)) is

  pub no_right : (ts : List Token) (cast : Bool) (g : Value) → part g 1 ≡ absent → Turned by ts cast g
  no_right ts cast g is key r from e known =
      subst (λ (v : Value). IfThere (KeyIs by (kept cast key)) (turned_by ts r e from g v)) (sym is)
      (no_operand (kept cast key) e r (binary_between ts from (first_of absent)) (expr_in (part g 1)) (ap expr_in is))

  pub operand_right : (ts : List Token) (g v row : Value) → part g 1 ≡ v → row ≡ as_group v → row ≡ nil
      → Turned by ts false g
  operand_right ts g v row is same none key r from e known =
      operand_by None ts e r from g (part g 1)
      (subst (λ (v : Value). as_group v ≡ nil) (sym is) (sym same ∙ none)) refl

  group_is : (w v vs : Value) → as_group w ≡ more v vs → w ≡ more v vs
  group_is (more u us) v vs e = e
  group_is absent v vs e = let bad : ⊥ = cc in absurd bad
  group_is nil v vs e = let bad : ⊥ = cc in absurd bad
  group_is (token n) v vs e = let bad : ⊥ = cc in absurd bad
  group_is (node from to m) v vs e = let bad : ⊥ = cc in absurd bad

  cast_by : (key : Option Key) (ts : List Token) (e : Expr) (r : Range) (from : ℕ) (g v vs : Value) → KeyIs by key e
      → IfThere (KeyIs by key) (turned_by ts r e from g (more v vs))
  cast_by key ts e r from g v vs known =
      subst (λ (key : Option Key). IfThere (KeyIs by key) (turned_by ts r e from g (more v vs))) known
      (go (kind_at ts g 0))
    where
      go : (o : Option TokenKind)
          → IfThere (KeyIs by (shown_expr by e).key) (given o (λ kind. asserted_by r e kind v))
      go None = record { is = tt }
      go (Some kind) = asserted_key kind e r v

  pub group_right : (ts : List Token) (g w row v vs : Value) → part g 1 ≡ w → row ≡ as_group w → row ≡ more v vs
      → Turned by ts true g
  group_right ts g w row v vs is same more_ key r from e known =
      subst (λ (u : Value). IfThere (KeyIs by key) (turned_by ts r e from g u))
      (sym (is ∙ group_is w v vs (sym same ∙ more_))) (cast_by key ts e r from g v vs known)

  -- ---- behind a left operand
  turned_there : (ts : List Token) (key : Option Key) (cast : Bool) (r : Range) (from : ℕ) (g : Value) (o : Option Expr)
      → Turned by ts cast g → IfThere (KeyIs by key) o
      → IfThere (KeyIs by (kept cast key)) (given o (λ left. turned_by ts r left from g (part g 1)))
  turned_there ts key cast r from g None turn known = record { is = tt }
  turned_there ts key cast r from g (Some e) turn known = turn key r from e known.is

  pub leaning_typed : (x : List ℕ) (ts : List Token) (to : ℕ) (turn g h : Value) (cast : Bool) → h ≡ group g 0
      → g ≡ as_group turn → Turned by ts cast h → LeanTurned by x ts vLean.TypedBinary cast (to, turn)
  unfolding build expr_of typed.typed_binary
  leaning_typed x ts to turn g h cast e f known key from v there =
      turned_there ts key cast (span_of ts from to) (behind v) (group (as_group turn) 0) (expr_in v)
      (subst (λ (h : Value). Turned by ts cast h) (e ∙ ap (λ (g : Value). group g 0) f) known) there

  bin_from : (ts : List Token) (r : Range) (o : Option Expr) (op : Option BinaryOp) (q : Option Expr)
      → IfThere (KeyIs by None)
      (given o (λ left. given op (λ op. given q (λ right. Some (vExpr.Bin op left right r)))))
  bin_from ts r None op q = record { is = tt }
  bin_from ts r (Some e) op q = bin_there None e r op q refl

  pub leaning_binary : (x : List ℕ) (ts : List Token) (to : ℕ) (turn : Value)
      → LeanTurned by x ts vLean.Binary false (to, turn)
  unfolding build expr_of exprs.binary
  leaning_binary x ts to turn key from v there =
      bin_from ts (span_of ts from to) (expr_in v)
      (binary_between ts (behind v) (first_of (part (more v (as_group turn)) 2)))
      (expr_in (part (more v (as_group turn)) 2))

  -- ---- all turns
  kept_both : (cast before : Bool) (key : Option Key) → kept cast (kept before key) ≡ kept (cast && before) key
  kept_both true before key = refl
  kept_both false before key = refl

  pub leaned_none : (x : List ℕ) (ts : List Token) (lean : Lean) (b : Bool) (ps : List Held) → ps ≡ []
      → Leaned by x ts lean b b ps
  unfolding leaned
  leaned_none x ts lean b ps e =
      subst (λ (ps : List Held). Leaned by x ts lean b b ps) (sym e) (λ key from v known. known)

  pub leaned_next : (x : List ℕ) (ts : List Token) (lean : Lean) (all ps : List Held) (turn : Held)
      (cast before mid after : Bool) → all ≡ turn ∷ ps → mid ≡ (cast && before) → LeanTurned by x ts lean cast turn
      → Leaned by x ts lean mid after ps → Leaned by x ts lean before after all
  unfolding leaned
  leaned_next x ts lean all ps turn cast before mid after e m step rest =
      subst (λ (ps : List Held). Leaned by x ts lean before after ps) (sym e) (λ key from v known.
      rest key from (leaning x ts lean from v turn)
      (subst (λ (k : Option Key). IfThere (KeyIs by k) (expr_in (leaning x ts lean from v turn)))
      (kept_both cast before key ∙ ap (λ (b : Bool). kept b key) (sym m)) (step (kept before key) from v known)))

  -- ---- the first operand, with all turns behind it
  leant_all : (x : List ℕ) (ts : List Token) (lean : Lean) (from to : ℕ) (v : Value) (ps : List Held)
      (after : Bool) (key : Option Key) → Leaned by x ts lean true after ps → IfThere (KeyIs by key) (expr_in v)
      → IfThere (KeyIs by (kept after key)) (expr_in (leant x ts lean from ((to, v) ∷ ps)))
  unfolding leaned
  leant_all x ts lean from to v [] after key turns known = record { is = tt }
  leant_all x ts lean from to v (q ∷ ps) after key turns known = turns key from v known

  pub leant_sees : (x : List ℕ) (ts : List Token) (lean : Lean) (from to : ℕ) (all ps : List Held) (v : Value)
      (casts : Bool) → all ≡ (to, v) ∷ ps → casts ≡ true → Leaned by x ts lean true casts ps
      → Sees by (expr_in v) (expr_in (leant x ts lean from all))
  leant_sees x ts lean from to all ps v casts e is turns =
      subst (λ (ps : List Held). Sees by (expr_in v) (expr_in (leant x ts lean from ps))) (sym e) (record {
        leads = λ key known.
            leant_all x ts lean from to v ps true key
            (subst (λ (b : Bool). Leaned by x ts lean true b ps) is turns) known;
      })

  any_key : (o : Option Expr) → (key : Option Key) × IfThere (KeyIs by key) o
  any_key None = (None, record { is = tt })
  any_key (Some e) = ((shown_expr by e).key, record { is = refl })

  pub leant_none : (x : List ℕ) (ts : List Token) (lean : Lean) (from to : ℕ) (all ps : List Held) (v : Value)
      (casts : Bool) → all ≡ (to, v) ∷ ps → casts ≡ false → Leaned by x ts lean true casts ps
      → IfThere (KeyIs by None) (expr_in (leant x ts lean from all))
  leant_none x ts lean from to all ps v casts e is turns =
      let known = any_key (expr_in v) in
      subst (λ (ps : List Held). IfThere (KeyIs by None) (expr_in (leant x ts lean from ps))) (sym e)
      (leant_all x ts lean from to v ps false known.0
      (subst (λ (b : Bool). Leaned by x ts lean true b ps) is turns) known.1)
