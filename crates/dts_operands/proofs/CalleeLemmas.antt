-- What further parts of a chain make, and what a call of `Object.freeze` is.
use Rattle.std.specs.Prelude.{ℕ, ◌+◌, ◌<◌, ◌≤◌, ◌&&◌, Bool, true, false, not, List, [], ◌∷◌, ◌++◌, length, Option, Some, None, option_map, map, if◌then◌else◌, IfSome, slice_get, slice_range, bytes_eq, codes}
use Rattle.std.proofs.Common.{arith, ◌≡◌, refl, sym, ap, subst, ◌∙◌}
use Rattle.std.proofs.lemmas.Bool.{true≢false}
use Rattle.base.specs.declared.range.Range.{Range}
use Rattle.es_token.specs.declared.token.Token.{Token}
use Rattle.es_token.specs.declared.token.TokenKind.TheVariants as k
use Rattle.grammar_theory.specs.Key.{same_kind}
use Rattle.es_grammar.specs.declared.rows.NodeKind.{NodeKind}
use Rattle.es_ast.specs.declared.ts.leaf.Ident.{Ident}
use Rattle.es_ast.specs.declared.ts.ts.TsPart.{TsPart}
use Rattle.es_ast.specs.declared.ts.ts.TsPart.TheVariants as vPart
use Rattle.es_ast.specs.declared.ast.Expr.{Expr, roll-Expr}
use Rattle.es_ast.specs.declared.ast.Expr.TheVariants as vExpr
use Rattle.es_ast.specs.declared.ast.ClassMember.TheOpen.{Expr-F}
use Rattle.es_site.specs.Parts.{Whole}
use Rattle.es_lowering.specs.Value.{Value, absent, nil, more, token, node, given, part, as_group, group, is_there, turns, optional, args_at, expr_at, post_at, arguments_at, first_of, behind}
use Rattle.es_lowering.specs.Texts.{span_of, ident_of, private_of, property_of}
use Rattle.es_lowering.specs.TypedParts.{args_part_at}
use Rattle.es_lowering.specs.Expressions.{Post, argument, argument_of, chained, optional_inner, member_of, index_of, call_of, tagged_of}
use Rattle.es_lowering.specs.TypedExpressions.{typed_optional_inner, typed_call_of, typed_tagged_of, non_null_of, typed_call}
use Rattle.es_lowering.specs.Lowering.{build}
use Rattle.es_syntax.specs.declared.entry.Lean.{Lean}
use Rattle.es_syntax.specs.declared.entry.What.TheVariants as vWhat
use Rattle.es_syntax.specs.declared.cursor.Item.{Item}
use Rattle.es_syntax.specs.Held.{held, parts_of, valued}
use Rattle.es_syntax.specs.Roles.{expr_in, post_in}
use Rattle.es_syntax.specs.Views.{is_one_of}
use Rattle.es_view_expressions.specs.call.Args as args_view
use Rattle.es_view_expressions.specs.call.Call as call
use Rattle.es_view_expressions.specs.call.Post as view
use Rattle.es_view_expressions.specs.expr.Primary as primary
use Rattle.dts_rules.specs.Rules as rules
use Rattle.dts_rules.specs.Rules.{Env, Shown, Sort, State, after, if_frozen, call_type, one_argument, in_expr}
use Rattle.dts_rules.specs.Programs.{shown_expr}
use Rattle.dts_rules.proofs.Shown.{beside_expr, with_expr}
use Rattle.dts_draft.specs.Drafts.{is_kind}
use Rattle.dts_draft.specs.Written.{IfThere}
use Rattle.dts_draft.proofs.There.{lifted, mapped, made as made_there, given_any, one}
use Rattle.dts_leaves.proofs.Shown.{shown_by}
use Rattle.dts_names.specs.Names.{IsCalled}
use Rattle.dts_operands.specs.declared.callees.Callee.{Callee}
use Rattle.dts_operands.specs.declared.callees.Callee.TheVariants as callee
use Rattle.dts_operands.specs.declared.callees.Argument.{Argument}
use Rattle.dts_operands.specs.declared.callees.Argument.TheVariants as args
use Rattle.dts_operands.specs.Labels.{beginning, spreading}
use Rattle.dts_operands.specs.Callees.{Neither, IsCallee, Makes, Made, Freezes, Leads, LeadsOn, IsOnly, OnlyBy, IsUnder}
use Rattle.dts_operands.proofs.Forms.{no_callee_forms, plain_forms, plain_leant}
use Rattle.dts_operands.proofs.LeafLemmas.{expr_place, there_by}

-- ---- what a call has, by what it calls and its arguments
module _ (env : Env) (c r : Bool) (s : State) where
  marked_one : (freeze : Bool) (sort : Sort) (it : Shown) → one_argument env freeze true sort it c r s ≡ (None, s)
  marked_one true sort it = refl
  marked_one false sort it = refl

  other_one : (freeze mark : Bool) (sort : Sort) (it : Shown) → freeze ≡ false
      → one_argument env freeze mark sort it c r s ≡ (None, s)
  other_one true mark sort it e = absurd (true≢false e)
  other_one false mark sort it e = refl

  spread_one : (freeze mark : Bool) (sort : Sort) (it : Shown) → sort ≡ Sort.spread
      → one_argument env freeze mark sort it c r s ≡ (None, s)
  spread_one freeze mark sort it e =
      ap (λ (sort : Sort). one_argument env freeze mark sort it c r s) e ∙ go freeze mark
    where
      go : (freeze mark : Bool) → one_argument env freeze mark Sort.spread it c r s ≡ (None, s)
      go true true = refl
      go true false = refl
      go false mark = refl

  frozen_one : (freeze : Bool) (sort : Sort) (it : Shown) → freeze ≡ true → sort ≡ Sort.plain
      → one_argument env freeze false sort it c r s ≡ after if_frozen (it.rule c r s)
  frozen_one freeze sort it f e =
      ap (λ (sort : Sort). one_argument env freeze false sort it c r s) e
      ∙ ap (λ (freeze : Bool). one_argument env freeze false Sort.plain it c r s) f

  marked_call : (k : Shown) (them : List (Expr × Shown)) → call_type env k true them c r s ≡ (None, s)
  marked_call k [] = refl
  marked_call k (a ∷ []) = marked_one k.is_freeze a.1.sort a.1
  marked_call k (a ∷ b ∷ them) = refl

  other_call : (k : Shown) (mark : Bool) (them : List (Expr × Shown)) → k.is_freeze ≡ false
      → call_type env k mark them c r s ≡ (None, s)
  other_call k mark [] e = refl
  other_call k mark (a ∷ []) e = other_one k.is_freeze mark a.1.sort a.1 e
  other_call k mark (a ∷ b ∷ them) e = refl

module _ (env : Env) where
  -- neither, and without a type
  pub record Quiet (e : Expr) : Type 0 where
    pub is : Neither env (shown_expr env e)
    pub rule : (c r : Bool) (s : State) → (shown_expr env e).rule c r s ≡ (None, s)

  quiet_by : (it : Expr) (w : Whole Expr-F) → roll-Expr w ≡ it → (in_expr env (beside_expr env w)).is_object ≡ false
      → (in_expr env (beside_expr env w)).is_freeze ≡ false
      → ((c r : Bool) (s : State) → (in_expr env (beside_expr env w)).rule c r s ≡ (None, s)) → Quiet it
  quiet_by it w rolls a b n = record {
    is = (
      ap (λ (k : Shown). k.is_object) (shown_by env it w rolls) ∙ a,
      ap (λ (k : Shown). k.is_freeze) (shown_by env it w rolls) ∙ b,
    );
    rule = λ c r s. ap (λ (k : Shown). k.rule c r s) (shown_by env it w rolls) ∙ n c r s;
  }

  index_quiet : (obj : Expr) (mark : Bool) (e : Expr) (span : Range) → Quiet (vExpr.Index obj mark e span)
  index_quiet obj mark e span =
      quiet_by _ (Expr-F.Index obj mark e span) (vExpr.rolls-Index obj mark e span) refl refl (λ c r s. refl)

  tagged_quiet : (obj : Expr) (ty : Option TsPart) (tpl : Expr) (span : Range) → Quiet (vExpr.TaggedTpl obj ty tpl span)
  tagged_quiet obj ty tpl span =
      quiet_by _ (Expr-F.TaggedTpl obj ty tpl span) (vExpr.rolls-TaggedTpl obj ty tpl span) refl refl (λ c r s. refl)

  non_null_quiet : (obj : Expr) (span : Range) → Quiet (vExpr.TsNonNull obj span)
  non_null_quiet obj span =
      quiet_by _ (Expr-F.TsNonNull obj span) (vExpr.rolls-TsNonNull obj span) refl refl (λ c r s. refl)

  mark_quiet : (obj : Expr) (hidden : Bool) (name : Ident) (span : Range)
      → Quiet (vExpr.Member obj true hidden name span)
  mark_quiet obj hidden name span =
      quiet_by _ (Expr-F.Member obj true hidden name span) (vExpr.rolls-Member obj true hidden name span) refl refl
      (λ c r s. refl)

  marked_call_quiet : (obj : Expr) (ty : Option TsPart) (them : List Expr) (span : Range)
      → Quiet (vExpr.Call obj true ty them span)
  marked_call_quiet obj ty them span =
      quiet_by _ (Expr-F.Call obj true ty them span) (vExpr.rolls-Call obj true ty them span) refl refl
      (λ c r s. marked_call env c r s (shown_expr env obj) (map (with_expr env) them))

  call_quiet : (obj : Expr) (mark : Bool) (ty : Option TsPart) (them : List Expr) (span : Range)
      → (shown_expr env obj).is_freeze ≡ false → Quiet (vExpr.Call obj mark ty them span)
  call_quiet obj mark ty them span e =
      quiet_by _ (Expr-F.Call obj mark ty them span) (vExpr.rolls-Call obj mark ty them span) refl refl
      (λ c r s. other_call env c r s (shown_expr env obj) mark (map (with_expr env) them) e)

  -- `.a`: `Object.freeze` or not
  dot_freeze : (obj : Expr) (m : Bool × Ident) (span : Range)
      → (shown_expr env (vExpr.Member obj false m.0 m.1 span)).is_freeze
      ≡ (not m.0 && ((shown_expr env obj).is_object && bytes_eq m.1.sym (codes "freeze")))
  dot_freeze obj m span =
      ap (λ (k : Shown). k.is_freeze) (shown_by env _ (Expr-F.Member obj false m.0 m.1 span)
      (vExpr.rolls-Member obj false m.0 m.1 span))

  dot_object : (obj : Expr) (m : Bool × Ident) (span : Range)
      → (shown_expr env (vExpr.Member obj false m.0 m.1 span)).is_object ≡ false
  dot_object obj m span =
      ap (λ (k : Shown). k.is_object) (shown_by env _ (Expr-F.Member obj false m.0 m.1 span)
      (vExpr.rolls-Member obj false m.0 m.1 span))

  dot_rule : (obj : Expr) (m : Bool × Ident) (span : Range) (c r : Bool) (s : State)
      → (shown_expr env (vExpr.Member obj false m.0 m.1 span)).rule c r s ≡ (None, s)
  dot_rule obj m span c r s =
      ap (λ (k : Shown). k.rule c r s) (shown_by env _ (Expr-F.Member obj false m.0 m.1 span)
      (vExpr.rolls-Member obj false m.0 m.1 span))

  and_false : (a b c : Bool) → b ≡ false → (a && (b && c)) ≡ false
  and_false true b c e = ap (λ (b : Bool). b && c) e
  and_false false b c e = refl

  -- whatever is decided of `Object` and the name
  by_object : (a b c d : Bool) → b ≡ true → (a && c) ≡ d → (a && (b && c)) ≡ d
  by_object a b c d e h = ap (λ (b : Bool). a && (b && c)) e ∙ h

  module _ (x : List ℕ) (ts : List Token) where
    -- ---- what makes nothing of whatever stands before it
    quiet : (before : Callee) (post : Post) → ((start : ℕ) (obj : Expr) → Quiet (post start obj))
        → Leads env x ts before callee.Neither post
    quiet before post h = λ start obj b. ((h start obj).is, (h start obj).rule)

    pub index_leads : (before : Callee) (r : Range) (o : Option Expr)
        → IfThere (Leads env x ts before callee.Neither) (view.index r o)
    unfolding view.index
    index_leads before r o =
        made_there (Leads env x ts before callee.Neither) (index_of false r) o
        (λ e. quiet before (index_of false r e) (λ start obj. index_quiet obj false e _))

    pub tagged_leads : (before : Callee) (r : Range) (o : Option Expr)
        → IfThere (Leads env x ts before callee.Neither) (view.tagged r o)
    unfolding view.tagged
    tagged_leads before r o =
        made_there (Leads env x ts before callee.Neither) (tagged_of r) o
        (λ tpl. quiet before (tagged_of r tpl) (λ start obj. tagged_quiet obj None tpl _))

    pub typed_tagged_leads : (before : Callee) (r : Range) (v : Value) (o : Option Expr)
        → IfThere (Leads env x ts before callee.Neither) (view.typed_tagged r v o)
    unfolding view.typed_tagged
    typed_tagged_leads before r v o =
        given_any (Leads env x ts before callee.Neither)
        (option_map (λ args. option_map vPart.TypeArgs args) (optional arguments_at v)) _ (λ ty.
        made_there (Leads env x ts before callee.Neither) (typed_tagged_of r ty) o
        (λ tpl. quiet before (typed_tagged_of r ty tpl) (λ start obj. tagged_quiet obj ty tpl _)))

    pub non_null_leads : (before : Callee) (r : Range)
        → IfThere (Leads env x ts before callee.Neither) (Some (non_null_of r))
    non_null_leads before r = record { is = quiet before (non_null_of r) (λ start obj. non_null_quiet obj _) }

    -- behind `?.`
    marked_leads : (before : Callee) (r : Range) (o : Option (Bool × Ident))
        → IfThere (Leads env x ts before callee.Neither) (option_map (member_of true r) o)
    marked_leads before r o =
        made_there (Leads env x ts before callee.Neither) (member_of true r) o
        (λ m. quiet before (member_of true r m) (λ start obj. mark_quiet obj m.0 m.1 _))

    called_leads : (before : Callee) (r : Range) (o : Option (List Expr))
        → IfThere (Leads env x ts before callee.Neither) (option_map (call_of true r) o)
    called_leads before r o =
        made_there (Leads env x ts before callee.Neither) (call_of true r) o
        (λ args. quiet before (call_of true r args) (λ start obj. marked_call_quiet obj None args _))

    indexed_leads : (before : Callee) (r : Range) (o : Option Expr)
        → IfThere (Leads env x ts before callee.Neither) (option_map (index_of true r) o)
    indexed_leads before r o =
        made_there (Leads env x ts before callee.Neither) (index_of true r) o
        (λ e. quiet before (index_of true r e) (λ start obj. index_quiet obj true e _))

    inner_leads : (before : Callee) (r : Range) (v : Value)
        → IfThere (Leads env x ts before callee.Neither) (optional_inner x ts r v)
    inner_leads before r (token n) = marked_leads before r (given (slice_get ts n) (property_of x))
    inner_leads before r absent = called_leads before r None
    inner_leads before r nil = called_leads before r None
    inner_leads before r (more v vs) = called_leads before r None
    inner_leads before r (node from to m) = called_leads before r m.args

    pub optional_leads : (before : Callee) (r : Range) (v : Value)
        → IfThere (Leads env x ts before callee.Neither) (view.optioned x ts r v)
    unfolding view.optioned
    optional_leads before r (node from to m) = indexed_leads before r m.expr
    optional_leads before r absent = inner_leads before r absent
    optional_leads before r nil = inner_leads before r absent
    optional_leads before r (token n) = inner_leads before r absent
    optional_leads before r (more v vs) = inner_leads before r v

    typed_by : (before : Callee) (r : Range) (v : Value)
        → IfThere (Leads env x ts before callee.Neither) (typed_call true r v)
    typed_by before r v =
        given_any (Leads env x ts before callee.Neither) (args_part_at v 0) _ (λ ty.
        given_any (Leads env x ts before callee.Neither) (args_at v 1) _ (λ args. record {
          is = quiet before (typed_call_of true r ty args) (λ start obj. marked_call_quiet obj ty args _);
        }))

    typed_inner_leads : (before : Callee) (r : Range) (v : Value)
        → IfThere (Leads env x ts before callee.Neither) (typed_optional_inner x ts r v)
    typed_inner_leads before r (more (token n) vs) = marked_leads before r (given (slice_get ts n) (property_of x))
    typed_inner_leads before r (more absent vs) = typed_by before r (more absent vs)
    typed_inner_leads before r (more nil vs) = typed_by before r (more nil vs)
    typed_inner_leads before r (more (more u us) vs) = typed_by before r (more (more u us) vs)
    typed_inner_leads before r (more (node from to m) vs) = typed_by before r (more (node from to m) vs)
    typed_inner_leads before r absent = typed_by before r absent
    typed_inner_leads before r nil = typed_by before r nil
    typed_inner_leads before r (token n) = typed_by before r (token n)
    typed_inner_leads before r (node from to m) = typed_by before r (node from to m)

    pub typed_optional_leads : (before : Callee) (r : Range) (v : Value)
        → IfThere (Leads env x ts before callee.Neither) (view.typed_optioned x ts r v)
    unfolding view.typed_optioned
    typed_optional_leads before r (node from to m) = indexed_leads before r m.expr
    typed_optional_leads before r absent = typed_inner_leads before r nil
    typed_optional_leads before r nil = typed_inner_leads before r nil
    typed_optional_leads before r (token n) = typed_inner_leads before r nil
    typed_optional_leads before r (more v vs) = typed_inner_leads before r (more v vs)

    -- ---- `.a`
    abbrev IsFreeze : Bool → Bool × Ident → Type 0
    IsFreeze b m = (not m.0 && bytes_eq m.1.sym (codes "freeze")) ≡ b

    pub freeze_leads : (r : Range) (o : Option Token) (b : Bool) → b ≡ true
        → IfThere (IsFreeze b) (given o (property_of x))
        → IfThere (Leads env x ts callee.Object callee.Freeze) (view.member x r o)
    unfolding view.member
    freeze_leads r o b is h =
        mapped (IsFreeze b) (Leads env x ts callee.Object callee.Freeze) (member_of false r) (given o (property_of x))
        (λ m f start obj before. (
          (
            dot_object obj m _,
            dot_freeze obj m _ ∙ by_object (not m.0) (shown_expr env obj).is_object _ true before.0 (f ∙ is),
          ),
          dot_rule obj m _,
        )) h

    pub member_leads : (r : Range) (o : Option Token) (b : Bool) → b ≡ false
        → IfThere (IsFreeze b) (given o (property_of x))
        → IfThere (Leads env x ts callee.Object callee.Neither) (view.member x r o)
    unfolding view.member
    member_leads r o b is h =
        mapped (IsFreeze b) (Leads env x ts callee.Object callee.Neither) (member_of false r) (given o (property_of x))
        (λ m f start obj before. (
          (
            dot_object obj m _,
            dot_freeze obj m _ ∙ by_object (not m.0) (shown_expr env obj).is_object _ false before.0 (f ∙ is),
          ),
          dot_rule obj m _,
        )) h

    dotted : (before : Callee) (r : Range) (o : Option Token)
        → ((obj : Expr) → IsCallee env before obj → (shown_expr env obj).is_object ≡ false)
        → IfThere (Leads env x ts before callee.Neither) (view.member x r o)
    unfolding view.member
    dotted before r o known =
        made_there (Leads env x ts before callee.Neither) (member_of false r) (given o (property_of x))
        (λ m start obj b. (
          (
            dot_object obj m _,
            dot_freeze obj m _ ∙ and_false (not m.0) (shown_expr env obj).is_object _ (known obj b),
          ),
          dot_rule obj m _,
        ))

    pub member_freeze : (r : Range) (o : Option Token)
        → IfThere (Leads env x ts callee.Freeze callee.Neither) (view.member x r o)
    member_freeze r o = dotted callee.Freeze r o (λ obj b. b.0)

    pub member_value : (value : Item) (r : Range) (o : Option Token)
        → IfThere (Leads env x ts (callee.Value value) callee.Neither) (view.member x r o)
    member_value value r o = dotted (callee.Value value) r o (λ obj b. b.0)

    pub member_neither : (r : Range) (o : Option Token)
        → IfThere (Leads env x ts callee.Neither callee.Neither) (view.member x r o)
    member_neither r o = dotted callee.Neither r o (λ obj b. b.0)

    -- ---- no grammar makes it
    pub any_broken : (before : Callee) (o : Option Post) → IfThere (Leads env x ts before callee.Broken) o
    any_broken before None = record { is = tt }
    any_broken before (Some post) = record { is = λ start obj b. (tt, tt) }

    -- ---- calls
    abbrev Calls : Callee → Callee → Range → Option TsPart → List Expr → Type 0
    Calls before after r ty es = Leads env x ts before after (typed_call_of false r ty es)

    calls_quiet : (before : Callee) (r : Range) (ty : Option TsPart) (o : Option (List Expr))
        → ((obj : Expr) → IsCallee env before obj → (shown_expr env obj).is_freeze ≡ false)
        → IfThere (Calls before callee.Neither r ty) o
    calls_quiet before r ty None known = record { is = tt }
    calls_quiet before r ty (Some es) known = record {
      is = λ start obj b.
          let q : Quiet (typed_call_of false r ty es start obj) = call_quiet obj false ty es _ (known obj b) in
          (q.is, q.rule);
    }

    pub call_object : (r : Range) (ty : Option TsPart) (o : Option (List Expr))
        → IfThere (Calls callee.Object callee.Neither r ty) o
    call_object r ty o = calls_quiet callee.Object r ty o (λ obj b. b.1)

    pub call_value : (value : Item) (r : Range) (ty : Option TsPart) (o : Option (List Expr))
        → IfThere (Calls (callee.Value value) callee.Neither r ty) o
    call_value value r ty o = calls_quiet (callee.Value value) r ty o (λ obj b. b.1)

    pub call_neither : (r : Range) (ty : Option TsPart) (o : Option (List Expr))
        → IfThere (Calls callee.Neither callee.Neither r ty) o
    call_neither r ty o = calls_quiet callee.Neither r ty o (λ obj b. b.1)

    pub call_broken : (before : Callee) (r : Range) (ty : Option TsPart) (o : Option (List Expr))
        → IfThere (Calls before callee.Broken r ty) o
    call_broken before r ty None = record { is = tt }
    call_broken before r ty (Some es) = record { is = λ start obj b. (tt, tt) }

    call_rule : (obj : Expr) (ty : Option TsPart) (es : List Expr) (span : Range) (c r : Bool) (s : State)
        → (shown_expr env (vExpr.Call obj false ty es span)).rule c r s
        ≡ call_type env (shown_expr env obj) false (map (with_expr env) es) c r s
    call_rule obj ty es span c r s =
        ap (λ (k : Shown). k.rule c r s) (shown_by env _ (Expr-F.Call obj false ty es span)
        (vExpr.rolls-Call obj false ty es span))

    call_is : (obj : Expr) (ty : Option TsPart) (es : List Expr) (span : Range)
        → Neither env (shown_expr env (vExpr.Call obj false ty es span))
    call_is obj ty es span = (
      ap (λ (k : Shown). k.is_object) (shown_by env _ (Expr-F.Call obj false ty es span)
          (vExpr.rolls-Call obj false ty es span)),
      ap (λ (k : Shown). k.is_freeze) (shown_by env _ (Expr-F.Call obj false ty es span)
          (vExpr.rolls-Call obj false ty es span)),
    )

    pub freezes_one : (value : Item) (r : Range) (ty : Option TsPart) (o : Option (List Expr))
        → IfThere (OnlyBy env x ts (args.One value)) o → IfThere (Calls callee.Freeze (callee.Value value) r ty) o
    freezes_one value r ty o h =
        lifted (λ es a start obj before. (
          call_is obj ty es _,
          record {
            it = a.it;
            there = a.there;
            rule = λ c u s.
                call_rule obj ty es _ c u s
                ∙ (ap (λ (es : List Expr). call_type env (shown_expr env obj) false (map (with_expr env) es) c u s)
                a.alone
                ∙ frozen_one env c u s (shown_expr env obj).is_freeze (shown_expr env a.it).sort (shown_expr env a.it)
                before.1 a.sort);
          },
        )) h

    pub freezes_others : (r : Range) (ty : Option TsPart) (o : Option (List Expr))
        → IfThere (OnlyBy env x ts args.Others) o → IfThere (Calls callee.Freeze callee.Neither r ty) o
    freezes_others r ty o h =
        lifted (λ es a start obj before. (
          call_is obj ty es _,
          λ c u s. call_rule obj ty es _ c u s ∙ a (shown_expr env obj) false c u s,
        )) h

    -- the forms of calls
    pub call_leads : (before after : Callee) (r : Range) (o : Option (List Expr))
        → ((ty : Option TsPart) → IfThere (Calls before after r ty) o)
        → IfThere (Leads env x ts before after) (view.call r o)
    unfolding view.call
    call_leads before after r o h =
        mapped (Calls before after r None) (Leads env x ts before after) (call_of false r) o (λ es a. a) (h None)

    pub typed_call_leads : (before after : Callee) (r : Range) (v : Value) (o : Option (List Expr))
        → ((ty : Option TsPart) → IfThere (Calls before after r ty) o)
        → IfThere (Leads env x ts before after) (view.typed_call r v o)
    unfolding view.typed_call
    typed_call_leads before after r v o h =
        given_any (Leads env x ts before after)
        (option_map (λ args. option_map vPart.TypeArgs args) (optional arguments_at v)) _ (λ ty. go ty o (h ty))
      where
        go : (ty : Option TsPart) (o : Option (List Expr)) → IfThere (Calls before after r ty) o
            → IfThere (Leads env x ts before after) (given o (λ args. Some (typed_call_of false r ty args)))
        go ty None h = record { is = tt }
        go ty (Some es) h = record { is = h.is }

    -- ---- arguments
    only_one : (i : Item) (o : Option Expr) → expr_in (valued x ts i) ≡ o
        → IfThere (λ e. (shown_expr env e).sort ≡ Sort.plain) o
        → IfThere (λ e. OnlyBy env x ts (args.One i) (e ∷ [])) o
    only_one i None there h = record { is = tt }
    only_one i (Some e) there h = record { is = record { it = e; there = there; alone = refl; sort = h.is } }

    pub plain_one : (i : Item) (label : NodeKind) → i.what ≡ vWhat.Node label → is_one_of spreading label ≡ false
        → IfThere (λ e. OnlyBy env x ts (args.One i) (e ∷ [])) (expr_in (valued x ts i))
    unfolding build
    plain_one i label is h =
        only_one i (expr_in (valued x ts i)) refl (expr_place _ x ts i (vWhat.Node label) is
        (plain_forms env x ts label i.from (span_of ts i.from i.to) i.parts.entries.now h))

    pub lean_one : (i : Item) (lean : Lean) → i.what ≡ vWhat.Lean lean
        → IfThere (λ e. OnlyBy env x ts (args.One i) (e ∷ [])) (expr_in (valued x ts i))
    lean_one i lean is =
        only_one i (expr_in (valued x ts i)) refl (expr_place _ x ts i (vWhat.Lean lean) is
        (plain_leant env x ts lean i.from (parts_of x ts i.parts.entries.now)))

    pub broken_one : (o : Option Expr) → IfThere (λ e. OnlyBy env x ts args.Broken (e ∷ [])) o
    broken_one None = record { is = tt }
    broken_one (Some e) = record { is = tt }

    -- behind `...`
    spread_sort : (e : Expr) (span : Range) → (shown_expr env (vExpr.Spread e span)).sort ≡ Sort.spread
    spread_sort e span =
        ap (λ (k : Shown). k.sort) (shown_by env _ (Expr-F.Expr::Spread e span) (vExpr.rolls-Spread e span))

    pub argument_spread : (g p : Value) → p ≡ g → is_there (group p 0) ≡ true
        → IfThere (λ e. OnlyBy env x ts args.Others (e ∷ [])) (argument ts g)
    argument_spread g p eg is =
        subst (λ (g : Value). IfThere (λ e. OnlyBy env x ts args.Others (e ∷ [])) (argument ts g)) eg
        (go (is_there (group p 0)) is (expr_at p 1))
      where
        go : (b : Bool) → b ≡ true → (o : Option Expr)
            → IfThere (λ e. OnlyBy env x ts args.Others (e ∷ [])) (option_map
            (argument_of b (span_of ts (first_of (part (group p 0) 0)) (behind (part p 1)))) o)
        go true e None = record { is = tt }
        go true e (Some it) = record {
          is = λ callee mark c r s. spread_one env c r s callee.is_freeze mark _ _ (spread_sort it _);
        }
        go false e o = absurd (true≢false (sym e))

    pub argument_plain : (a : Argument) (g p v : Value) → p ≡ g → is_there (group p 0) ≡ false → part p 1 ≡ v
        → IfThere (λ e. OnlyBy env x ts a (e ∷ [])) (expr_in v)
        → IfThere (λ e. OnlyBy env x ts a (e ∷ [])) (argument ts g)
    argument_plain a g p v eg is ev h =
        subst (λ (g : Value). IfThere (λ e. OnlyBy env x ts a (e ∷ [])) (argument ts g)) eg
        (go (is_there (group p 0)) is (expr_at p 1)
        (subst (λ (w : Value). IfThere (λ e. OnlyBy env x ts a (e ∷ [])) (expr_in w)) (sym ev) h))
      where
        go : (b : Bool) → b ≡ false → (o : Option Expr) → IfThere (λ e. OnlyBy env x ts a (e ∷ [])) o
            → IfThere (λ e. OnlyBy env x ts a (e ∷ [])) (option_map
            (argument_of b (span_of ts (first_of (part (group p 0) 0)) (behind (part p 1)))) o)
        go false e None h = record { is = tt }
        go false e (Some it) h = record { is = h.is }
        go true e o h = absurd (true≢false e)

    pub argument_broken : (o : Option Expr) → IfThere (λ e. OnlyBy env x ts args.Broken (e ∷ [])) o
    argument_broken o = broken_one o

    -- none, one, several
    pub no_arguments : (row : Value) → row ≡ nil
        → IfThere (OnlyBy env x ts args.Others) (turns (argument ts) row)
    no_arguments row e =
        subst (λ (v : Value). IfThere (OnlyBy env x ts args.Others) (turns (argument ts) v)) (sym e)
        (record { is = λ callee mark c r s. refl })

    pub one_argument_in : (a : Argument) (row v vs : Value) → row ≡ more v vs → vs ≡ nil
        → IfThere (λ e. OnlyBy env x ts a (e ∷ [])) (argument ts (as_group v))
        → IfThere (OnlyBy env x ts a) (turns (argument ts) row)
    one_argument_in a row v vs e n h =
        subst (λ (w : Value). IfThere (OnlyBy env x ts a) (turns (argument ts) w)) (sym e)
        (subst (λ (w : Value). IfThere (OnlyBy env x ts a)
        (given (argument ts (as_group v)) (λ e. given (turns (argument ts) w) (λ rest. Some (e ∷ rest))))) (sym n)
        (go (argument ts (as_group v)) h))
      where
        go : (o : Option Expr) → IfThere (λ e. OnlyBy env x ts a (e ∷ [])) o
            → IfThere (OnlyBy env x ts a) (given o (λ e. Some (e ∷ [])))
        go None h = record { is = tt }
        go (Some it) h = record { is = h.is }

    pub several_arguments : (row v vs u us : Value) → row ≡ more v vs → vs ≡ more u us
        → IfThere (OnlyBy env x ts args.Others) (turns (argument ts) row)
    several_arguments row v vs u us e n =
        subst (λ (w : Value). IfThere (OnlyBy env x ts args.Others) (turns (argument ts) w)) (sym e)
        (subst (λ (w : Value). IfThere (OnlyBy env x ts args.Others)
        (given (argument ts (as_group v)) (λ e. given (turns (argument ts) w) (λ rest. Some (e ∷ rest))))) (sym n)
        (go (argument ts (as_group v)) (argument ts (as_group u)) (turns (argument ts) us)))
      where
        go : (o p : Option Expr) (q : Option (List Expr)) → IfThere (OnlyBy env x ts args.Others)
            (given o (λ e. given (given p (λ a. given q (λ rest. Some (a ∷ rest)))) (λ rest. Some (e ∷ rest))))
        go None p q = record { is = tt }
        go (Some it) None q = record { is = tt }
        go (Some it) (Some two) None = record { is = tt }
        go (Some it) (Some two) (Some them) = record { is = λ callee mark c r s. refl }

    pub arguments_only : (a : Argument) (row : Value) → IfThere (OnlyBy env x ts a) (turns (argument ts) row)
        → IfThere (OnlyBy env x ts a) (args_view.arguments ts row)
    unfolding args_view.arguments
    arguments_only a row h = h

    pub any_arguments : (o : Option (List Expr)) → IfThere (OnlyBy env x ts args.Broken) o
    any_arguments None = record { is = tt }
    any_arguments (Some es) = record { is = tt }

    -- ---- along the chain
    pub leads_none : (row : Value) (b : Callee) → row ≡ nil → LeadsOn env x ts b b row
    leads_none row b e =
        subst (λ (v : Value). LeadsOn env x ts b b v) (sym e) (λ start obj known. record { is = known })

    pub leads_next : (before mid after : Callee) (all v rest : Value) → all ≡ more v rest
        → IfThere (Leads env x ts before mid) (post_at (as_group v) 0) → LeadsOn env x ts mid after rest
        → LeadsOn env x ts before after all
    leads_next before mid after all v rest e step others =
        subst (λ (w : Value). LeadsOn env x ts before after w) (sym e)
        (λ start obj known. go start obj known (post_at (as_group v) 0) step)
      where
        join : (start : ℕ) (obj : Expr) (post : Post) (o : Option (List Post))
            → IfThere (λ posts. Made env x ts after (chained start (post start obj) posts)) o
            → IfThere (λ posts. Made env x ts after (chained start obj posts)) (given o (λ rest. Some (post ∷ rest)))
        join start obj post None h = record { is = tt }
        join start obj post (Some posts) h = record { is = h.is }

        go : (start : ℕ) (obj : Expr) → Made env x ts before obj → (o : Option Post)
            → IfThere (Leads env x ts before mid) o
            → IfThere (λ posts. Made env x ts after (chained start obj posts))
            (given o (λ a. given (turns (λ turn. post_at turn 0) rest) (λ rest. Some (a ∷ rest))))
        go start obj known None h = record { is = tt }
        go start obj known (Some post) h =
            join start obj post (turns (λ turn. post_at turn 0) rest)
            (others start (post start obj) (h.is start obj known.0))

    pub chain_makes : (begun second last : Callee) (r : Range) (base : Option Expr) (first : Option Post)
        (others : Value)
        → IfThere (IsCallee env begun) base → IfThere (Leads env x ts begun second) first
        → LeadsOn env x ts second last others → IfThere (Makes env x ts last) (call.chained_of r base first others)
    unfolding call.chained_of
    chain_makes begun second last r None first others a b c = record { is = tt }
    chain_makes begun second last r (Some e) None others a b c = record { is = tt }
    chain_makes begun second last r (Some e) (Some post) others a b c =
        go (turns (λ turn. post_at turn 0) others) (c r.start (post r.start e) (b.is r.start e a.is))
      where
        go : (o : Option (List Post))
            → IfThere (λ posts. Made env x ts last (chained r.start (post r.start e) posts)) o
            → IfThere (Makes env x ts last) (given o (λ others. Some (chained r.start e (post ∷ others))))
        go None h = record { is = tt }
        go (Some posts) h = record { is = h.is.1 }

    pub any_made : (o : Option Expr) → IfThere (Makes env x ts callee.Broken) o
    any_made None = record { is = tt }
    any_made (Some e) = record { is = tt }

    -- ---- what begins a chain
    base_by : (b : Bool) (id : Ident) → rules.is_called env (codes "Object") id ≡ b
        → ((shown_expr env (vExpr.Ident id)).is_object ≡ b) × ((shown_expr env (vExpr.Ident id)).is_freeze ≡ false)
    base_by b id e = (
      ap (λ (k : Shown). k.is_object) (shown_by env _ (Expr-F.Expr::Ident id) (vExpr.rolls-Ident id)) ∙ e,
      ap (λ (k : Shown). k.is_freeze) (shown_by env _ (Expr-F.Expr::Ident id) (vExpr.rolls-Ident id)),
    )

    pub base_object : (b : Bool) (o : Option Token) → b ≡ true → IfThere (IsCalled env x (codes "Object") b) o
        → IfThere (IsCallee env callee.Object) (primary.ident x o)
    unfolding primary.ident
    base_object b o is h =
        mapped (IsCalled env x (codes "Object") b) (IsCallee env callee.Object) (λ t. vExpr.Ident (ident_of x t)) o
        (λ t e. base_by true (ident_of x t) (e ∙ is)) h

    pub base_neither : (b : Bool) (o : Option Token) → b ≡ false → IfThere (IsCalled env x (codes "Object") b) o
        → IfThere (IsCallee env callee.Neither) (primary.ident x o)
    unfolding primary.ident
    base_neither b o is h =
        mapped (IsCalled env x (codes "Object") b) (IsCallee env callee.Neither) (λ t. vExpr.Ident (ident_of x t)) o
        (λ t e. base_by false (ident_of x t) (e ∙ is)) h

    pub base_other : (i : Item) (label : NodeKind) → i.what ≡ vWhat.Node label → is_one_of beginning label ≡ false
        → IfThere (IsCallee env callee.Neither) (expr_in (valued x ts i))
    unfolding build
    base_other i label is h =
        expr_place _ x ts i (vWhat.Node label) is
        (no_callee_forms env x ts label i.from (span_of ts i.from i.to) i.parts.entries.now h)

    pub base_broken : (o : Option Expr) → IfThere (IsCallee env callee.Broken) o
    base_broken None = record { is = tt }
    base_broken (Some e) = record { is = tt }

-- ---- the name of a member
module _ (x : List ℕ) where
  abbrev Freeze : Bool → Bool × Ident → Type 0
  Freeze b m = (not m.0 && bytes_eq m.1.sym (codes "freeze")) ≡ b

  private_by : (t : Token) (b : Bool) → b ≡ true
      → IfThere (Freeze false)
      (if b then option_map (λ name. (true, name)) (private_of x t) else Some (false, ident_of x t))
  private_by t true e = go (private_of x t)
    where
      go : (o : Option Ident) → IfThere (Freeze false) (option_map (λ name. (true, name)) o)
      go None = record { is = tt }
      go (Some name) = record { is = refl }
  private_by t false e = absurd (true≢false (sym e))

  pub private_freeze : (o : Option Token) → is_kind k.PrivateName o ≡ true
      → IfThere (Freeze false) (given o (property_of x))
  unfolding property_of
  private_freeze None e = record { is = tt }
  private_freeze (Some t) e = private_by t (same_kind t.kind k.PrivateName) e

  pub no_freeze : (o : Option Token) (b : Bool) → o ≡ None → IfThere (Freeze b) (given o (property_of x))
  no_freeze o b e =
      subst (λ (o : Option Token). IfThere (Freeze b) (given o (property_of x))) (sym e) (record { is = tt })

  plain_by : (t : Token) (b c : Bool) → b ≡ false → bytes_eq (ident_of x t).sym (codes "freeze") ≡ c
      → IfThere (Freeze c)
      (if b then option_map (λ name. (true, name)) (private_of x t) else Some (false, ident_of x t))
  plain_by t true c e h = absurd (true≢false e)
  plain_by t false c e h = record { is = h }

  pub plain_freeze : (o : Option Token) (t : Token) (b : Bool) → is_kind k.PrivateName o ≡ false → o ≡ Some t
      → bytes_eq (ident_of x t).sym (codes "freeze") ≡ b → IfThere (Freeze b) (given o (property_of x))
  unfolding property_of
  plain_freeze o t b plain there e =
      subst (λ (o : Option Token). IfThere (Freeze b) (given o (property_of x))) (sym there)
      (plain_by t (same_kind t.kind k.PrivateName) b
      (subst (λ (o : Option Token). is_kind k.PrivateName o ≡ false) there plain) e)

  -- the same by the bytes of the token
  pub named_freeze : (o : Option Token) (t : Token) (q : List ℕ) (b : Bool) → is_kind k.PrivateName o ≡ false
      → o ≡ Some t → q ≡ slice_range x t.range.start t.range.end → b ≡ bytes_eq q (codes "freeze")
      → IfThere (Freeze b) (given o (property_of x))
  unfolding ident_of
  named_freeze o t q b plain there eq e =
      plain_freeze o t b plain there (ap (λ (p : List ℕ). bytes_eq p (codes "freeze")) (sym eq) ∙ sym e)

-- ---- what is frozen lies below
pub under_more : (c : Callee) (m n : ℕ) → m ≤ n → IsUnder c m → IsUnder c n
under_more callee.Object m n le h = tt
under_more callee.Freeze m n le h = tt
under_more (callee.Value value) m n le h = omega arith
under_more callee.Neither m n le h = tt
under_more callee.Broken m n le h = tt

pub under_any : (c : Callee) (n : ℕ) → IsUnder c 0 → IsUnder c n
under_any c n h = under_more c 0 n (omega arith) h
