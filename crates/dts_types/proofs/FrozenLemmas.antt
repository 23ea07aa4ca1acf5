-- What is frozen stays so: to freeze it again changes nothing. And what a call of `Object.freeze` has.
use Rattle.std.specs.Prelude.{Bool, true, false, List, [], ◌∷◌, Option, Some, None, option_map}
use Rattle.std.proofs.Common.{◌≡◌, ℕ, refl, sym, ap, subst, ◌∙◌}
use Rattle.es_token.specs.declared.token.Token.{Token}
use Rattle.es_ast.specs.declared.ts.leaf.TsTypeOperatorOp.TheVariants as operator
use Rattle.es_ast.specs.declared.ts.leaf.TsTypeOperatorOp.{TsTypeOperatorOp}
use Rattle.es_ast.specs.declared.ts.ts.TsType.{TsType, roll-TsType, out-TsType, out-roll-TsType, roll-out-TsType}
use Rattle.es_ast.specs.declared.ts.ts.TsType.TheVariants as vType
use Rattle.es_ast.specs.declared.ts.ts.TsType.TheOpen.{TsType-F, TsTypeElement-F}
use Rattle.es_ast.specs.declared.ts.ts.TsTypeElement.{TsTypeElement, out-TsTypeElement, out-roll-TsTypeElement}
use Rattle.es_ast.specs.declared.ts.ts.TsTypeElement.TheVariants as vMember
use Rattle.es_ast.specs.declared.ts.ts.TsFnParam.{TsFnParam}
use Rattle.es_ast.specs.declared.ts.ts.TsTupleElement.{TsTupleElement}
use Rattle.es_ast.specs.declared.ts.ts.TsTypeParam.{TsTypeParam}
use Rattle.es_ast.specs.declared.ast.Expr.{Expr}
use Rattle.es_syntax.specs.declared.cursor.Item.{Item}
use Rattle.es_syntax.specs.Held.{valued}
use Rattle.es_syntax.specs.Roles.{expr_in}
use Rattle.dts_rules.specs.Sets.{is_readonly}
use Rattle.dts_rules.specs.Made.{frozen, frozen_by, frozen_members, frozen_member_by, if_true, readonly_type}
use Rattle.dts_rules.specs.Rules as rules
use Rattle.dts_rules.specs.Rules.{State, after, if_frozen}
use Rattle.dts_rules.specs.Programs.{shown_expr}
use Rattle.dts_draft.specs.declared.draft.Draft.{Draft}
use Rattle.dts_draft.specs.Drafts.{state_of}
use Rattle.dts_draft.specs.Written.{IfThere}
use Rattle.dts_draft.proofs.There.{lifted}
use Rattle.dts_kept.specs.Kept.{frozen_member}
use Rattle.dts_kept.proofs.TypeForms.{frozen_TypeLit, frozen_Fn, frozen_Constructor, frozen_Operator}
use Rattle.dts_types.specs.declared.ask.Ask.{Ask}
use Rattle.dts_types.specs.Types.{by_frozen, asked, Answers, Infers}
use Rattle.dts_operands.specs.Callees.{Freezes}

-- ---- members
out_Property : (readonly : Bool) (key : _) (mark : Bool) (ty : Option TsType) (span : _)
    → out-TsTypeElement (vMember.PropertySignature readonly key mark ty span)
    ≡ TsTypeElement-F.PropertySignature readonly key mark ty span
out_Property readonly key mark ty span =
    ap out-TsTypeElement (sym (vMember.rolls-PropertySignature readonly key mark ty span))
    ∙ out-roll-TsTypeElement (TsTypeElement-F.PropertySignature readonly key mark ty span)

out_Index : (readonly : Bool) (name : _) (of : TsType) (ty : Option TsType) (span : _)
    → out-TsTypeElement (vMember.IndexSignature readonly name of ty span)
    ≡ TsTypeElement-F.IndexSignature readonly name of ty span
out_Index readonly name of ty span =
    ap out-TsTypeElement (sym (vMember.rolls-IndexSignature readonly name of ty span))
    ∙ out-roll-TsTypeElement (TsTypeElement-F.IndexSignature readonly name of ty span)

got : TsTypeElement → Option TsTypeElement → TsTypeElement
got d (Some a) = a
got d None = d

of_some : (a b : TsTypeElement) → Some a ≡ Some b → a ≡ b
unfolding got
of_some a b e = ap (λ (o : Option TsTypeElement). got a o) e

-- it stays what it is
abbrev Stays : TsTypeElement → Type 0
Stays f = frozen_member f ≡ Some f

property_stays : (key : _) (mark : Bool) (ty : Option TsType) (span : _)
    → Stays (vMember.PropertySignature true key mark ty span)
property_stays key mark ty span = ap (λ w. frozen_member_by w) (out_Property true key mark ty span)

index_stays : (name : _) (of : TsType) (ty : Option TsType) (span : _)
    → Stays (vMember.IndexSignature true name of ty span)
index_stays name of ty span = ap (λ w. frozen_member_by w) (out_Index true name of ty span)

member_form : (w : TsTypeElement-F TsType TsTypeElement TsFnParam TsTupleElement TsTypeParam) (f : TsTypeElement)
    → frozen_member_by w ≡ Some f → Stays f
member_form (TsTypeElement-F.CallSignature a b c d) f e = let bad : ⊥ = cc in absurd bad
member_form (TsTypeElement-F.ConstructSignature a b c d) f e = let bad : ⊥ = cc in absurd bad
member_form (TsTypeElement-F.MethodSignature a b c d g h i) f e = let bad : ⊥ = cc in absurd bad
member_form (TsTypeElement-F.IndexSignature readonly name of ty span) f e =
    subst Stays (of_some (vMember.IndexSignature true name of ty span) f e) (index_stays name of ty span)
member_form (TsTypeElement-F.PropertySignature readonly key mark ty span) f e =
    subst Stays (of_some (vMember.PropertySignature true key mark ty span) f e) (property_stays key mark ty span)

member_stays : (m f : TsTypeElement) → frozen_member m ≡ Some f → Stays f
member_stays m f e = member_form (out-TsTypeElement m) f e

both_stay : (f : TsTypeElement) (fs : List TsTypeElement) → Stays f → frozen_members fs ≡ Some fs
    → frozen_members (f ∷ fs) ≡ Some (f ∷ fs)
both_stay f fs e h = rw (e, h) refl

both_frozen : (m f : TsTypeElement) (ms fs : List TsTypeElement) → frozen_member m ≡ Some f
    → frozen_members ms ≡ Some fs → frozen_members (m ∷ ms) ≡ Some (f ∷ fs)
both_frozen m f ms fs e h = rw (e, h) refl

rest_none : (m f : TsTypeElement) (ms : List TsTypeElement) → frozen_member m ≡ Some f → frozen_members ms ≡ None
    → frozen_members (m ∷ ms) ≡ None
rest_none m f ms e h = rw (e, h) refl

first_none : (m : TsTypeElement) (ms : List TsTypeElement) → frozen_member m ≡ None → frozen_members (m ∷ ms) ≡ None
first_none m ms e = rw e refl

-- all of them
abbrev AllStay : Option (List TsTypeElement) → Type 0
AllStay (Some fs) = frozen_members fs ≡ Some fs
AllStay None = Unit {0}

members_stay : (ms : List TsTypeElement) → AllStay (frozen_members ms)
members_stay [] = refl
members_stay (m ∷ ms) = go (frozen_member m) refl (frozen_members ms) refl (members_stay ms)
  where
    go : (f : Option TsTypeElement) → frozen_member m ≡ f → (fs : Option (List TsTypeElement)) → frozen_members ms ≡ fs
        → AllStay fs → AllStay (frozen_members (m ∷ ms))
    go None e fs h known = subst AllStay (sym (first_none m ms e)) tt
    go (Some f) e None h known = subst AllStay (sym (rest_none m f ms e h)) tt
    go (Some f) e (Some fs) h known =
        subst AllStay (sym (both_frozen m f ms fs e h)) (both_stay f fs (member_stays m f e) known)

-- ---- types
abbrev TypeStays : Option TsType → Type 0
TypeStays (Some ty) = frozen ty ≡ Some ty
TypeStays None = Unit {0}

own_form : (ty : TsType) (w : TsType-F TsType TsTypeElement TsFnParam TsTupleElement TsTypeParam) → out-TsType ty ≡ w
    → frozen_by ty w ≡ Some ty → frozen ty ≡ Some ty
unfolding frozen
own_form ty w is e = ap (frozen_by ty) is ∙ e

readonly_stays : (ty : TsType) → frozen (readonly_type ty) ≡ Some (readonly_type ty)
readonly_stays ty = frozen_Operator operator.ReadOnly ty _

type_form : (ty : TsType) (w : TsType-F TsType TsTypeElement TsFnParam TsTupleElement TsTypeParam) → out-TsType ty ≡ w
    → TypeStays (frozen_by ty w)
type_form ty (TsType-F.TypeLit members span) is = go (frozen_members members) (members_stay members)
  where
    go : (o : Option (List TsTypeElement)) → AllStay o → TypeStays (option_map (λ ms. vType.TypeLit ms span) o)
    go None known = tt
    go (Some ms) known = frozen_TypeLit ms span ∙ ap (option_map (λ ms. vType.TypeLit ms span)) known
type_form ty (TsType-F.Array elem span) is = readonly_stays ty
type_form ty (TsType-F.Tuple elems span) is = readonly_stays ty
type_form ty (TsType-F.Operator op inner span) is = go (is_readonly op) refl
  where
    go : (b : Bool) → is_readonly op ≡ b → TypeStays (if_true b ty)
    go true e = own_form ty (TsType-F.Operator op inner span) is (ap (λ (b : Bool). if_true b ty) e)
    go false e = tt
type_form ty (TsType-F.Fn a b c d) is = own_form ty (TsType-F.Fn a b c d) is refl
type_form ty (TsType-F.Constructor z a b c d) is = own_form ty (TsType-F.Constructor z a b c d) is refl
type_form ty (TsType-F.Keyword a b) is = tt
type_form ty (TsType-F.This a) is = tt
type_form ty (TsType-F.Lit a) is = tt
type_form ty (TsType-F.Tpl a b c) is = tt
type_form ty (TsType-F.Ref a b c) is = tt
type_form ty (TsType-F.Query a b) is = tt
type_form ty (TsType-F.Import a b c d) is = tt
type_form ty (TsType-F.Paren a b) is = tt
type_form ty (TsType-F.Mapped a b c d g h i) is = tt
type_form ty (TsType-F.Conditional a b c d g) is = tt
type_form ty (TsType-F.Union a b) is = tt
type_form ty (TsType-F.Intersection a b) is = tt
type_form ty (TsType-F.Infer a b) is = tt
type_form ty (TsType-F.IndexedAccess a b c) is = tt
type_form ty (TsType-F.Predicate a b c d) is = tt

stays : (ty : TsType) → TypeStays (frozen ty)
unfolding frozen
stays ty = type_form ty (out-TsType ty) refl

twice : (o : Option TsType) → if_frozen (if_frozen o) ≡ if_frozen o
twice None = refl
twice (Some ty) = go (frozen ty) (stays ty)
  where
    go : (o : Option TsType) → TypeStays o → if_frozen o ≡ o
    go None known = refl
    go (Some f) known = known

-- ---- the value of a call
module _ (env : rules.Env) (x : List ℕ) (ts : List Token) where
  by_twice : (froze : Bool) (t : Option TsType × State) → by_frozen froze (after if_frozen t) ≡ after if_frozen t
  by_twice true t = ap (λ (o : Option TsType). (o, t.1)) (twice t.0)
  by_twice false t = refl

  pub frozen_value : (ask : Ask) (old new : Draft) (wrote : Bool) (value : Item) (o : Option Expr)
      → IfThere (Freezes env x ts value) o
      → IfThere (Infers x ts env (record { literal = ask.literal; readonly = ask.readonly; frozen = true }) old new
      wrote)
      (expr_in (valued x ts value))
      → IfThere (Infers x ts env ask old new wrote) o
  frozen_value ask old new wrote value o h known =
      lifted (λ e f. subst (Answers x ts old new wrote)
      (sym (ap (by_frozen ask.frozen) (f.rule ask.literal ask.readonly (state_of old))
      ∙ by_twice ask.frozen ((shown_expr env f.it).rule ask.literal ask.readonly (state_of old))))
      (inner e f)) h
    where
      inner : (e : Expr) (f : Freezes env x ts value e)
          → Answers x ts old new wrote
          (after if_frozen ((shown_expr env f.it).rule ask.literal ask.readonly (state_of old)))
      inner e f = there_is (subst (λ (o : Option Expr). IfThere (Infers x ts env
          (record { literal = ask.literal; readonly = ask.readonly; frozen = true }) old new wrote) o) f.there known)
        where
          there_is : IfThere (Infers x ts env
              (record { literal = ask.literal; readonly = ask.readonly; frozen = true }) old new wrote) (Some f.it)
              → Answers x ts old new wrote
              (after if_frozen ((shown_expr env f.it).rule ask.literal ask.readonly (state_of old)))
          there_is k = k.is
