-- What operands have, by what was read of them.
use Rattle.std.specs.Prelude.{ℕ, ◌+◌, Bool, true, false, List, [], ◌∷◌, ◌++◌, Option, Some, None, option_map, if◌then◌else◌, IfSome}
use Rattle.std.proofs.Common.{◌≡◌, refl, sym, ap, subst, ◌∙◌}
use Rattle.base.specs.declared.range.Range.{Range}
use Rattle.es_token.specs.declared.token.Token.{Token}
use Rattle.es_token.specs.declared.token.TokenKind.{TokenKind}
use Rattle.es_token.specs.declared.token.TokenKind.TheVariants as k
use Rattle.grammar_theory.specs.Key.{same_kind}
use Rattle.es_grammar.specs.declared.rows.NodeKind.{NodeKind}
use Rattle.es_ast.specs.declared.ts.ts.TsPart.{TsPart}
use Rattle.es_ast.specs.declared.ts.ts.TsPart.TheVariants as vPart
use Rattle.es_ast.specs.declared.leaf.Lit.{Lit}
use Rattle.es_ast.specs.declared.leaf.UnaryOp.{UnaryOp}
use Rattle.es_ast.specs.declared.leaf.UnaryOp.TheVariants as vUnary
use Rattle.es_ast.specs.declared.ast.Expr.{Expr, out-Expr, roll-Expr, out-roll-Expr}
use Rattle.es_ast.specs.declared.ast.Expr.TheVariants as vExpr
use Rattle.es_ast.specs.declared.ast.ClassMember.TheOpen.{Expr-F}
use Rattle.es_site.specs.Parts.{Whole}
use Rattle.es_lowering.specs.Value.{Value, nil, more, given, turns, optional, expr_at, args_at, arguments_at}
use Rattle.es_lowering.specs.Texts.{ident_of, numeric_of, piece_of, piece_there, span_of}
use Rattle.es_lowering.specs.Operators.{listed, unary_ops}
use Rattle.es_lowering.specs.Expressions.{new_of}
use Rattle.es_lowering.specs.TypedExpressions.{typed_new_of}
use Rattle.es_lowering.specs.Lowering.{build}
use Rattle.es_syntax.specs.declared.entry.Lean.{Lean}
use Rattle.es_syntax.specs.declared.entry.What.{What}
use Rattle.es_syntax.specs.declared.entry.What.TheVariants as vWhat
use Rattle.es_syntax.specs.declared.cursor.Item.{Item}
use Rattle.es_syntax.specs.Held.{held, made, parts_of, valued}
use Rattle.es_syntax.specs.Roles.{expr_in, ts_type_in}
use Rattle.es_syntax.specs.Views.{is_one_of}
use Rattle.es_changed.specs.declared.entry.ChangedEntry.{ChangedEntry}
use Rattle.es_changed.proofs.Written.{nothing_written}
use Rattle.es_view_expressions.specs.call.Call as call
use Rattle.es_view_expressions.specs.expr.Primary as primary
use Rattle.es_view_expressions.specs.operator.Operator as operator
use Rattle.dts_rules.specs.Rules as rules
use Rattle.dts_rules.specs.Rules.{Env, State, minus_type, new_type, numeric_type, in_expr}
use Rattle.dts_rules.specs.Programs.{shown_expr}
use Rattle.dts_rules.proofs.Shown.{beside_expr}
use Rattle.dts_draft.specs.Drafts.{is_kind}
use Rattle.dts_draft.specs.Written.{IfThere, Gives}
use Rattle.dts_draft.proofs.There.{lifted, mapped, made as made_there, given_any, none, one}
use Rattle.dts_leaves.specs.Leaves.{HasType, IsNumeric, IsTemplate}
use Rattle.dts_leaves.proofs.Shown.{shown_by}
use Rattle.dts_names.specs.Names.{IsNameType, IsClassName}
use Rattle.dts_operands.specs.Labels.{counting, naming}
use Rattle.dts_operands.specs.Leaves.{IsNegative, IsNew}
use Rattle.dts_operands.proofs.Forms.{uncounted_forms, uncounted_leant, unnamed_forms, unnamed_leant}

-- at a place of a row
pub expr_place : (P : Expr → Type 0) (x : List ℕ) (ts : List Token) (i : Item) (w : What) → i.what ≡ w
    → IfThere P (expr_in (made x ts w i.from i.to (held x ts i.parts.entries.now) (parts_of x ts i.parts.entries.now)))
    → IfThere P (expr_in (valued x ts i))
expr_place P x ts i w is h =
    let Q : What → Type 0 = λ w.
    IfThere P (expr_in (made x ts w i.from i.to (held x ts i.parts.entries.now) (parts_of x ts i.parts.entries.now))) in
    subst Q (sym is) h

-- what another value holds
pub there_by : {A : Type 0} (P : A → Type 0) {o p : Option A} → o ≡ p → IfThere P p → IfThere P o
there_by P e h = subst (λ (o : Option _). IfThere P o) (sym e) h

module _ (env : Env) (x : List ℕ) (ts : List Token) where
  out_is : (it : Expr) (w : Whole Expr-F) → roll-Expr w ≡ it → out-Expr it ≡ w
  out_is it w rolls = ap out-Expr (sym rolls) ∙ out-roll-Expr w

  -- ---- names and templates
  pub ident_has : (c wrote : Bool) (old new : List ChangedEntry) (o : Option Token)
      → IfThere (IsNameType env x ts c old new wrote) o
      → IfThere (HasType env x ts c wrote old new) (primary.ident x o)
  unfolding primary.ident
  ident_has c wrote old new o h =
      mapped (IsNameType env x ts c old new wrote) (HasType env x ts c wrote old new) (λ t. vExpr.Ident (ident_of x t))
      o
      (λ t g. record {
        ty = rules.name_type env (ident_of x t) c;
        rule = λ r s. ap (λ (k : rules.Shown). k.rule c r s)
            (shown_by env _ (Expr-F.Expr::Ident (ident_of x t)) (vExpr.rolls-Ident (ident_of x t)));
        gives = g;
      }) h

  pub template_has : (c : Bool) (old new : List ChangedEntry) (r : Range) (o : Option Token)
      → IsTemplate env x ts c old new → IfThere (HasType env x ts c true old new) (primary.template x r o)
  unfolding primary.template
  template_has c old new r o h =
      made_there (HasType env x ts c true old new) (λ piece. vExpr.Tpl (piece ∷ []) [] r) (given o (piece_of x))
      (λ piece. h (piece ∷ []) [] r)

  pub template_parts_has : (c : Bool) (old new : List ChangedEntry) (r : Range) (head : Option Token)
      (first : Option Expr) (others : Value) (tail : Option Token) → IsTemplate env x ts c old new
      → IfThere (HasType env x ts c true old new) (primary.template_parts x ts r head first others tail)
  unfolding primary.template_parts
  template_parts_has c old new r head first others tail h =
      let Q : Expr → Type 0 = HasType env x ts c true old new in
      given_any Q (given head (piece_of x)) _ (λ head.
      given_any Q first _ (λ first.
      given_any Q (turns (λ turn. piece_there x ts turn 0) others) _ (λ middles.
      given_any Q (turns (λ turn. expr_at turn 1) others) _ (λ others.
      given_any Q (given tail (piece_of x)) _ (λ tail.
      one Q (h (head ∷ (middles ++ tail ∷ [])) (first ∷ others) r))))))

  -- ---- `-a`
  unary_type : (c wrote : Bool) (old new : List ChangedEntry) (op : UnaryOp) (e : Expr) (r : Range)
      → Gives x ts ts_type_in old new wrote (minus_type env op (out-Expr e) r c)
      → HasType env x ts c wrote old new (vExpr.Unary op e r)
  unary_type c wrote old new op e r g = record {
    ty = minus_type env op (out-Expr e) r c;
    rule = λ u s. ap (λ (k : rules.Shown). k.rule c u s)
        (shown_by env _ (Expr-F.Unary op e r) (vExpr.rolls-Unary op e r));
    gives = g;
  }

  -- the operator of this token
  op_of : TokenKind → Option UnaryOp
  op_of kind = listed unary_ops kind

  op_minus : (kind : TokenKind) → same_kind kind k.Minus ≡ true → listed unary_ops kind ≡ Some vUnary.Minus
  unfolding unary_ops
  op_minus kind e = rw e refl

  -- another operator has no type
  abbrev NoMinus : UnaryOp → Type 0
  NoMinus op = (w : Whole Expr-F) (r : Range) (c : Bool) → minus_type env op w r c ≡ None

  if_there : (b : Bool) (o p : Option UnaryOp) → IfThere NoMinus o → IfThere NoMinus p
      → IfThere NoMinus (if b then o else p)
  if_there true o p h g = h
  if_there false o p h g = g

  op_other : (kind : TokenKind) → same_kind kind k.Minus ≡ false → IfThere NoMinus (listed unary_ops kind)
  unfolding unary_ops
  op_other kind e =
      subst (λ (b : Bool). IfThere NoMinus (if b then Some vUnary.Minus else listed rest kind)) (sym e) others
    where
      rest : List (TokenKind × UnaryOp)
      rest =
          (k.Plus, vUnary.Plus) ∷ (k.Exclamation, vUnary.Bang) ∷ (k.Tilde, vUnary.Tilde) ∷
          (k.TypeofWord, vUnary.TypeOf) ∷ (k.VoidWord, vUnary.Void) ∷ (k.DeleteWord, vUnary.Delete) ∷ []

      others : IfThere NoMinus (listed rest kind)
      others =
          if_there (same_kind kind k.Plus) _ _ (one NoMinus (λ w r c. refl))
          (if_there (same_kind kind k.Exclamation) _ _ (one NoMinus (λ w r c. refl))
          (if_there (same_kind kind k.Tilde) _ _ (one NoMinus (λ w r c. refl))
          (if_there (same_kind kind k.TypeofWord) _ _ (one NoMinus (λ w r c. refl))
          (if_there (same_kind kind k.VoidWord) _ _ (one NoMinus (λ w r c. refl))
          (if_there (same_kind kind k.DeleteWord) _ _ (one NoMinus (λ w r c. refl)) (none NoMinus))))))

  pub minus_has : (c wrote : Bool) (old new : List ChangedEntry) (r : Range) (sign : Option Token) (arg : Option Expr)
      → is_kind k.Minus sign ≡ true → IfThere (IsNegative env x ts c r wrote old new) arg
      → IfThere (HasType env x ts c wrote old new) (operator.unary r sign arg)
  unfolding operator.unary
  minus_has c wrote old new r None arg is h = record { is = tt }
  minus_has c wrote old new r (Some t) arg is h =
      there_by (HasType env x ts c wrote old new)
      (ap (λ (o : Option UnaryOp). given o (λ op. given arg (λ arg. Some (vExpr.Unary op arg r)))) (op_minus t.kind is))
      (go arg h)
    where
      go : (o : Option Expr) → IfThere (IsNegative env x ts c r wrote old new) o
          → IfThere (HasType env x ts c wrote old new) (given o (λ arg. Some (vExpr.Unary vUnary.Minus arg r)))
      go None h = record { is = tt }
      go (Some e) h = record { is = unary_type c wrote old new vUnary.Minus e r h.is }

  pub plus_has : (c : Bool) (old : List ChangedEntry) (r : Range) (sign : Option Token) (arg : Option Expr)
      → is_kind k.Minus sign ≡ false → IfThere (HasType env x ts c false old old) (operator.unary r sign arg)
  unfolding operator.unary
  plus_has c old r None arg is = record { is = tt }
  plus_has c old r (Some t) arg is = go (listed unary_ops t.kind) (op_other t.kind is) arg
    where
      go : (o : Option UnaryOp) → IfThere NoMinus o → (arg : Option Expr)
          → IfThere (HasType env x ts c false old old)
          (given o (λ op. given arg (λ arg. Some (vExpr.Unary op arg r))))
      go None h arg = record { is = tt }
      go (Some op) h None = record { is = tt }
      go (Some op) h (Some e) = record {
        is = unary_type c false old old op e r
            (subst (Gives x ts ts_type_in old old false) (sym (h.is (out-Expr e) r c))
            (refl, nothing_written x ts old));
      }

  -- a number or a BigInt
  pub negative_has : (c : Bool) (r : Range) (old new : List ChangedEntry) (o : Option Token)
      → IfThere (IsNumeric x ts true c r old new) (given o (numeric_of x))
      → IfThere (IsNegative env x ts c r true old new) (primary.number x o)
  unfolding primary.number
  negative_has c r old new o h =
      mapped (IsNumeric x ts true c r old new) (IsNegative env x ts c r true old new) vExpr.Lit (given o (numeric_of x))
      (λ it g. subst (Gives x ts ts_type_in old new true)
      (sym (ap (λ (w : Whole Expr-F). minus_type env vUnary.Minus w r c)
      (out_is (vExpr.Lit it) (Expr-F.Lit it) (vExpr.rolls-Lit it)))) g) h

  no_number : (c : Bool) (r : Range) (old : List ChangedEntry) (o : Option Expr)
      → IfThere (λ e. (span : Range) (c : Bool) → minus_type env vUnary.Minus (out-Expr e) span c ≡ None) o
      → IfThere (IsNegative env x ts c r false old old) o
  no_number c r old o h =
      lifted (λ e n. subst (Gives x ts ts_type_in old old false) (sym (n r c)) (refl, nothing_written x ts old)) h

  pub no_negative : (c : Bool) (r : Range) (old : List ChangedEntry) (i : Item) (label : NodeKind)
      → i.what ≡ vWhat.Node label → is_one_of counting label ≡ false
      → IfThere (IsNegative env x ts c r false old old) (expr_in (valued x ts i))
  unfolding build
  no_negative c r old i label is h =
      no_number c r old _ (expr_place _ x ts i (vWhat.Node label) is
      (uncounted_forms env x ts label i.from (span_of ts i.from i.to) i.parts.entries.now h))

  pub no_negative_lean : (c : Bool) (r : Range) (old : List ChangedEntry) (i : Item) (lean : Lean)
      → i.what ≡ vWhat.Lean lean → IfThere (IsNegative env x ts c r false old old) (expr_in (valued x ts i))
  no_negative_lean c r old i lean is =
      no_number c r old _ (expr_place _ x ts i (vWhat.Lean lean) is
      (uncounted_leant env x ts lean i.from (parts_of x ts i.parts.entries.now)))

  -- ---- `new a`
  new_has : (c wrote has_args : Bool) (old new : List ChangedEntry) (e : Expr) (types : Option TsPart)
      (args : List Expr)
      (r : Range) → Gives x ts ts_type_in old new wrote (new_type env (out-Expr e) types)
      → HasType env x ts c wrote old new (vExpr.New e types has_args args r)
  new_has c wrote has_args old new e types args r g = record {
    ty = new_type env (out-Expr e) types;
    rule = λ u s. ap (λ (k : rules.Shown). k.rule c u s)
        (shown_by env _ (Expr-F.New e types has_args args r) (vExpr.rolls-New e types has_args args r));
    gives = g;
  }

  pub plain_new : (c wrote : Bool) (old new : List ChangedEntry) (r : Range) (callee : Option Expr) (args : Value)
      → IfThere (IsNew env x ts wrote old new) callee
      → IfThere (HasType env x ts c wrote old new) (call.newed r callee args)
  unfolding call.newed
  plain_new c wrote old new r None args h = record { is = tt }
  plain_new c wrote old new r (Some e) args h = go (optional args_at args)
    where
      go : (o : Option (Option (List Expr)))
          → IfThere (HasType env x ts c wrote old new) (given o (λ args. Some (new_of r e args)))
      go None = record { is = tt }
      go (Some None) = record { is = new_has c wrote false old new e None [] r h.is }
      go (Some (Some them)) = record { is = new_has c wrote true old new e None them r h.is }

  made_new : (c wrote : Bool) (old new : List ChangedEntry) (r : Range) (e : Expr) (types : Option TsPart)
      (args : Value)
      → Gives x ts ts_type_in old new wrote (new_type env (out-Expr e) types)
      → IfThere (HasType env x ts c wrote old new)
      (given (optional args_at args) (λ args. Some (typed_new_of r e types args)))
  made_new c wrote old new r e types args g = go (optional args_at args)
    where
      go : (o : Option (Option (List Expr)))
          → IfThere (HasType env x ts c wrote old new) (given o (λ args. Some (typed_new_of r e types args)))
      go None = record { is = tt }
      go (Some None) = record { is = new_has c wrote false old new e types [] r g }
      go (Some (Some them)) = record { is = new_has c wrote true old new e types them r g }

  -- without type arguments
  pub typed_new_none : (c wrote : Bool) (old new : List ChangedEntry) (r : Range) (callee : Option Expr)
      (types args : Value)
      → types ≡ nil → IfThere (IsNew env x ts wrote old new) callee
      → IfThere (HasType env x ts c wrote old new) (call.typed_newed r callee types args)
  unfolding call.typed_newed
  typed_new_none c wrote old new r None types args e h = record { is = tt }
  typed_new_none c wrote old new r (Some it) types args e h =
      subst (λ (v : Value). IfThere (HasType env x ts c wrote old new) (given
      (option_map (λ args. option_map vPart.TypeArgs args) (optional arguments_at v))
      (λ types. given (optional args_at args) (λ args. Some (typed_new_of r it types args))))) (sym e)
      (made_new c wrote old new r it None args h.is)

  with_types : (w : Whole Expr-F) (part : TsPart) → new_type env w (Some part) ≡ None
  with_types (Expr-F.Expr::This span) part = refl
  with_types (Expr-F.Super span) part = refl
  with_types (Expr-F.Expr::Ident id) part = refl
  with_types (Expr-F.PrivateName id) part = refl
  with_types (Expr-F.Lit it) part = refl
  with_types (Expr-F.Expr::Hole span) part = refl
  with_types (Expr-F.Expr::Array elems span) part = refl
  with_types (Expr-F.Expr::Spread expr span) part = refl
  with_types (Expr-F.Expr::Object props span) part = refl
  with_types (Expr-F.Expr::Fn it) part = refl
  with_types (Expr-F.Expr::Class it) part = refl
  with_types (Expr-F.Arrow it) part = refl
  with_types (Expr-F.Paren expr span) part = refl
  with_types (Expr-F.Unary op arg span) part = refl
  with_types (Expr-F.Update op prefix arg span) part = refl
  with_types (Expr-F.Await arg span) part = refl
  with_types (Expr-F.Yield delegate arg span) part = refl
  with_types (Expr-F.Bin op left right span) part = refl
  with_types (Expr-F.Expr::Assign op left right span) part = refl
  with_types (Expr-F.Cond test cons alt span) part = refl
  with_types (Expr-F.Seq exprs span) part = refl
  with_types (Expr-F.Member obj mark hidden prop span) part = refl
  with_types (Expr-F.Index obj mark prop span) part = refl
  with_types (Expr-F.Call callee mark types args span) part = refl
  with_types (Expr-F.New callee types has_args args span) part = refl
  with_types (Expr-F.ImportCall phase args span) part = refl
  with_types (Expr-F.ImportMeta span) part = refl
  with_types (Expr-F.NewTarget span) part = refl
  with_types (Expr-F.Tpl quasis exprs span) part = refl
  with_types (Expr-F.TaggedTpl tag types tpl span) part = refl
  with_types (Expr-F.TsNonNull expr span) part = refl
  with_types (Expr-F.TsAs expr ty span) part = refl
  with_types (Expr-F.TsConstAssertion expr span) part = refl
  with_types (Expr-F.TsSatisfies expr ty span) part = refl

  -- with them
  pub typed_new_some : (c : Bool) (old : List ChangedEntry) (r : Range) (callee : Option Expr) (types args v vs : Value)
      → types ≡ more v vs → IfThere (HasType env x ts c false old old) (call.typed_newed r callee types args)
  unfolding call.typed_newed
  typed_new_some c old r None types args v vs e = record { is = tt }
  typed_new_some c old r (Some it) types args v vs e =
      subst (λ (w : Value). IfThere (HasType env x ts c false old old) (given
      (option_map (λ args. option_map vPart.TypeArgs args) (optional arguments_at w))
      (λ types. given (optional args_at args) (λ args. Some (typed_new_of r it types args))))) (sym e)
      (go (arguments_at (more v vs) 0))
    where
      go : (o : Option _) → IfThere (HasType env x ts c false old old)
          (given (option_map (λ args. option_map vPart.TypeArgs args) (option_map Some o))
          (λ types. given (optional args_at args) (λ args. Some (typed_new_of r it types args))))
      go None = record { is = tt }
      go (Some them) =
          made_new c false old old r it (Some (vPart.TypeArgs them)) args
          (subst (Gives x ts ts_type_in old old false) (sym (with_types (out-Expr it) (vPart.TypeArgs them)))
          (refl, nothing_written x ts old))

  -- the class itself
  pub class_new : (wrote : Bool) (old new : List ChangedEntry) (o : Option Token)
      → IfThere (IsClassName env x ts old new wrote) o → IfThere (IsNew env x ts wrote old new) (primary.ident x o)
  unfolding primary.ident
  class_new wrote old new o h =
      mapped (IsClassName env x ts old new wrote) (IsNew env x ts wrote old new) (λ t. vExpr.Ident (ident_of x t)) o
      (λ t g. subst (Gives x ts ts_type_in old new wrote) (sym (ap (λ (w : Whole Expr-F). new_type env w None)
      (out_is _ (Expr-F.Expr::Ident (ident_of x t)) (vExpr.rolls-Ident (ident_of x t))))) g) h

  no_class : (old : List ChangedEntry) (o : Option Expr) → IfThere (λ e. new_type env (out-Expr e) None ≡ None) o
      → IfThere (IsNew env x ts false old old) o
  no_class old o h =
      lifted (λ e n. subst (Gives x ts ts_type_in old old false) (sym n) (refl, nothing_written x ts old)) h

  pub no_new : (old : List ChangedEntry) (i : Item) (label : NodeKind) → i.what ≡ vWhat.Node label
      → is_one_of naming label ≡ false → IfThere (IsNew env x ts false old old) (expr_in (valued x ts i))
  unfolding build
  no_new old i label is h =
      no_class old _ (expr_place _ x ts i (vWhat.Node label) is
      (unnamed_forms env x ts label i.from (span_of ts i.from i.to) i.parts.entries.now h))

  pub no_new_lean : (old : List ChangedEntry) (i : Item) (lean : Lean) → i.what ≡ vWhat.Lean lean
      → IfThere (IsNew env x ts false old old) (expr_in (valued x ts i))
  no_new_lean old i lean is =
      no_class old _ (expr_place _ x ts i (vWhat.Lean lean) is
      (unnamed_leant env x ts lean i.from (parts_of x ts i.parts.entries.now)))
