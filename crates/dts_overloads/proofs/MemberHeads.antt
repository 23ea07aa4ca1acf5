-- Members of classes in lists.
use Rattle.std.specs.Prelude.{ℕ, Bool, true, false, List, [], ◌∷◌, Option, Some, None, option_map, is_some, if◌then◌else◌}
use Rattle.std.proofs.Common.{◌≡◌, refl, sym, ap, subst, ◌∙◌}
use Rattle.base.specs.declared.range.Range.{Range}
use Rattle.es_token.specs.declared.token.Token.{Token}
use Rattle.es_token.specs.declared.token.TokenKind.{TokenKind}
use Rattle.es_token.specs.declared.token.TokenKind.TheVariants as k
use Rattle.grammar_theory.specs.Key.{same_kind}
use Rattle.es_ast.specs.declared.ts.leaf.Ident.{Ident}
use Rattle.es_ast.specs.declared.ts.leaf.MethodKind.{MethodKind}
use Rattle.es_ast.specs.declared.ts.leaf.MethodKind.TheVariants as vMethod
use Rattle.es_ast.specs.declared.ts.ts.TsPart.{TsPart}
use Rattle.es_ast.specs.declared.ts.ts.TsPart.TheVariants as vPart
use Rattle.es_ast.specs.declared.ts.ts.TsType.{TsType}
use Rattle.es_ast.specs.declared.leaf.Modifiers.{Modifiers}
use Rattle.es_ast.specs.declared.ast.ClassMember.{ClassMember, roll-ClassMember}
use Rattle.es_ast.specs.declared.ast.ClassMember.TheVariants as vMember
use Rattle.es_ast.specs.declared.ast.Expr.{Expr}
use Rattle.es_ast.specs.declared.ast.Function.{Function, roll-Function}
use Rattle.es_ast.specs.declared.ast.Param.{Param}
use Rattle.es_ast.specs.declared.ast.Stmt.{Stmt}
use Rattle.es_ast.specs.declared.ast.ModuleItem.{ModuleItem}
use Rattle.es_ast.specs.declared.ast.ClassMember.TheOpen.{ClassMember-F}
use Rattle.es_site.specs.Parts.{Whole}
use Rattle.es_lowering.specs.Value.{Value, Signature, given, optional, expr_at, type_at}
use Rattle.es_lowering.specs.Texts.{ident_of, kind_at}
use Rattle.es_lowering.specs.Operators.{listed, accessor_kinds}
use Rattle.es_lowering.specs.Functions.{Key, plain, function_of}
use Rattle.es_lowering.specs.Classes.{modified}
use Rattle.es_lowering.specs.TypedParts.{modifiers_in, body_in}
use Rattle.es_lowering.specs.TypedFunctions.{typed_function_of, with_accessor, is_mark}
use Rattle.es_syntax.specs.Roles.{stmt_in, item_in, member_in}
use Rattle.es_view_statements.specs.class.Member as member
use Rattle.dts_rules.specs.Ranges.{Name, Head, Listed, key_head, method_head, in_class_member, seen_expr, seen_function, listed_member}
use Rattle.dts_rules.proofs.Listed.{of_listed_member, at_listed_member}
use Rattle.dts_overloads.specs.declared.names.Name.{Name as AName}
use Rattle.dts_overloads.specs.declared.heads.Head.{Head as AHead}
use Rattle.dts_overloads.specs.declared.heads.Kind.TheVariants as kind
use Rattle.dts_overloads.specs.Among.{stmt_head, item_head, member_head}
use Rattle.dts_overloads.specs.Names.{named, Calls}
use Rattle.dts_overloads.specs.Heads.{heads_of, HasBody, HeadsStmt, HeadsItem, HeadsMember, heads_in, HeadsIn}
use Rattle.dts_overloads.proofs.HeadLemmas.{body_seen}

pub member_same : (head : Option AHead) (a b : Option ClassMember) → a ≡ b → HeadsMember head b → HeadsMember head a
member_same head a b e h = subst (HeadsMember head) (sym e) h

head_by : (w : Whole ClassMember-F) (it : ClassMember) (h : Option Head) → roll-ClassMember w ≡ it
    → (in_class_member (of_listed_member w)).head ≡ h → member_head it ≡ h
head_by w it h rolls e =
    ap (λ (s : ClassMember). member_head s) (sym rolls) ∙ ap (λ (s : Listed). s.head) (at_listed_member w) ∙ e

method_is : (mods : Modifiers) (of : MethodKind) (computed : Bool) (key : Expr) (mark : Bool) (f : Function)
    (r : Range) → member_head (vMember.Method mods of computed key mark f r)
    ≡ method_head of ((seen_expr key).key computed) (seen_function f).has_body r
method_is mods of computed key mark f r =
    head_by (ClassMember-F.ClassMember::Method mods of computed key mark f r) _ _
    (vMember.rolls-Method mods of computed key mark f r) refl

called : (it : Option AName) (there : Bool) (r : Range) (head : Option AHead) (computed : Bool) (key : Expr)
    (f : Function) → (seen_expr key).key computed ≡ named it → (seen_function f).has_body ≡ there
    → heads_of head ≡ key_head (named it) there r
    → key_head ((seen_expr key).key computed) (seen_function f).has_body r ≡ heads_of head
called it there r head computed key f e g h =
    ap (λ (n : Option Name). key_head n (seen_function f).has_body r) e
    ∙ ap (λ (b : Bool). key_head (named it) b r) g ∙ sym h

module _ (r : Range) (it : Option AName) (head : Option AHead) where
  pub member_method : (is_static is_async is_generator : Bool) (span : Range) (key : Option Key)
      (params : Option (List Param)) (body : Option Stmt) → Calls it key → heads_of head ≡ key_head (named it) true r
      → HeadsMember head (member.method r vMethod.Method is_static is_async is_generator span key params body)
  unfolding member.method
  member_method is_static is_async is_generator span None params body c h = record { heads = tt }
  member_method is_static is_async is_generator span (Some key) None body c h = record { heads = tt }
  member_method is_static is_async is_generator span (Some key) (Some params) None c h = record { heads = tt }
  member_method is_static is_async is_generator span (Some key) (Some params) (Some body) c h = record {
    heads = method_is _ vMethod.Method key.0 key.1 false _ r
        ∙ called it true r head key.0 key.1 _ c.calls
        (body_seen None is_async is_generator None params None (Some body) span) h;
  }

  pub member_typed_method : (ts : List Token) (there : Bool) (modifiers : Value) (is_async is_generator : Bool)
      (span : Range) (key : Option Key) (mark : Bool) (signature : Option Signature) (body : Value) → Calls it key
      → HasBody there (body_in body) → heads_of head ≡ key_head (named it) there r
      → HeadsMember head (member.typed_method ts r vMethod.Method modifiers is_async is_generator span key mark
      signature body)
  unfolding member.typed_method
  member_typed_method ts there modifiers is_async is_generator span key mark signature body c b h =
      go (modifiers_in ts plain modifiers) key signature (body_in body) c b
    where
      go : (o : Option Modifiers) (key : Option Key) (signature : Option Signature) (body : Option (Option Stmt))
          → Calls it key → HasBody there body
          → HeadsMember head (given o (λ modifiers. given key (λ key. given signature (λ signature.
          given body (λ body. Some (vMember.Method modifiers vMethod.Method key.0 key.1 mark
          (typed_function_of is_async is_generator span None signature body) r))))))
      go None key signature body c b = record { heads = tt }
      go (Some m) None signature body c b = record { heads = tt }
      go (Some m) (Some key) None body c b = record { heads = tt }
      go (Some m) (Some key) (Some signature) None c b = record { heads = tt }
      go (Some m) (Some key) (Some signature) (Some body) c b = record {
        heads = method_is m vMethod.Method key.0 key.1 mark _ r
            ∙ called it there r head key.0 key.1 _ c.calls
            (body_seen None is_async is_generator signature.0 signature.1 signature.2 body span ∙ b.has) h;
      }

-- ---- members that are no methods
given_none : {A : Type 0} (o : Option A) (make : A → Option ClassMember) → ((a : A) → HeadsMember None (make a))
    → HeadsMember None (given o make)
given_none None make h = record { heads = tt }
given_none (Some a) make h = h a

last_none : {A : Type 0} (o : Option A) (make : A → ClassMember) → ((a : A) → member_head (make a) ≡ None)
    → HeadsMember None (given o (λ a. Some (make a)))
last_none None make h = record { heads = tt }
last_none (Some a) make h = record { heads = h a }

pub member_empty : (r : Range) → HeadsMember None (Some (vMember.Empty r))
member_empty r = record { heads = head_by (ClassMember-F.ClassMember::Empty r) _ _ (vMember.rolls-Empty r) refl }

pub member_static : (r : Range) (o : Option (List Stmt)) → HeadsMember None (member.static_of r o)
unfolding member.static_of
member_static r None = record { heads = tt }
member_static r (Some s) = record {
  heads = head_by (ClassMember-F.StaticBlock s r) _ _ (vMember.rolls-StaticBlock s r) refl;
}

-- getters and setters
by_kind : (r : Range) (make : MethodKind → Option ClassMember) → HeadsMember None (make vMethod.Getter)
    → HeadsMember None (make vMethod.Setter) → (o : Option TokenKind)
    → HeadsMember None (given (given o (listed accessor_kinds)) make)
unfolding accessor_kinds
by_kind r make g s None = record { heads = tt }
by_kind r make g s (Some kind) = go (same_kind kind k.GetWord) (same_kind kind k.SetWord)
  where
    go : (a b : Bool)
        → HeadsMember None (given (if a then Some vMethod.Getter else (if b then Some vMethod.Setter else None)) make)
    go true b = g
    go false true = s
    go false false = record { heads = tt }

module _ (r : Range) where
  plain_accessor : (of : MethodKind) → ((n : Option Name) (b : Bool) → method_head of n b r ≡ None)
      → (is_static : Bool) (span : Range) (key : Option Key) (params : Option (List Param)) (body : Option Stmt)
      → HeadsMember None (member.method r of is_static false false span key params body)
  unfolding member.method
  plain_accessor of quiet is_static span None params body = record { heads = tt }
  plain_accessor of quiet is_static span (Some key) None body = record { heads = tt }
  plain_accessor of quiet is_static span (Some key) (Some params) None = record { heads = tt }
  plain_accessor of quiet is_static span (Some key) (Some params) (Some body) = record {
    heads = method_is _ of key.0 key.1 false _ r ∙ quiet _ _;
  }

  pub member_accessor : (o : Option Token) (is_static : Bool) (span : Range) (key : Option Key)
      (params : Option (List Param)) (body : Option Stmt)
      → HeadsMember None (member.accessor r o is_static span key params body)
  unfolding member.accessor
  member_accessor o is_static span key params body =
      by_kind r (λ of. member.method r of is_static false false span key params body)
      (plain_accessor vMethod.Getter (λ n b. refl) is_static span key params body)
      (plain_accessor vMethod.Setter (λ n b. refl) is_static span key params body) (option_map (λ t. t.kind) o)

  typed_by : (ts : List Token) (of : MethodKind) → ((n : Option Name) (b : Bool) → method_head of n b r ≡ None)
      → (modifiers : Value) (span : Range) (key : Option Key) (mark : Bool) (signature : Option Signature)
      (body : Value) → HeadsMember None (member.typed_method ts r of modifiers false false span key mark signature body)
  unfolding member.typed_method
  typed_by ts of quiet modifiers span key mark signature body =
      given_none (modifiers_in ts plain modifiers) _ (λ m. given_none key _ (λ key.
      given_none signature _ (λ signature.
      last_none (body_in body) (λ body. vMember.Method m of key.0 key.1 mark
      (typed_function_of false false span None signature body) r)
      (λ body. method_is m of key.0 key.1 mark _ r ∙ quiet _ _))))

  pub member_typed_accessor : (ts : List Token) (o : Option Token) (modifiers : Value) (span : Range)
      (key : Option Key) (mark : Bool) (signature : Option Signature) (body : Value)
      → HeadsMember None (member.typed_accessor ts r o modifiers span key mark signature body)
  unfolding member.typed_accessor
  member_typed_accessor ts o modifiers span key mark signature body =
      by_kind r (λ of. member.typed_method ts r of modifiers false false span key mark signature body)
      (typed_by ts vMethod.Getter (λ n b. refl) modifiers span key mark signature body)
      (typed_by ts vMethod.Setter (λ n b. refl) modifiers span key mark signature body) (option_map (λ t. t.kind) o)

  prop_none : (mods : Modifiers) (computed : Bool) (key : Expr) (mark definite : Bool) (ty : Option TsPart)
      (value : Option Expr) → member_head (vMember.Prop mods computed key mark definite ty value r) ≡ None
  prop_none mods computed key mark definite ty value =
      head_by (ClassMember-F.Prop mods computed key mark definite ty value r) _ _
      (vMember.rolls-Prop mods computed key mark definite ty value r) refl

  pub member_field : (is_static is_accessor : Bool) (key : Option Key) (value : Value)
      → HeadsMember None (member.field r is_static is_accessor key value)
  unfolding member.field
  member_field is_static is_accessor key value =
      given_none key _ (λ key.
      last_none (optional expr_at value)
      (λ value. vMember.Prop (modified is_static is_accessor) key.0 key.1 false false None value r)
      (λ value. prop_none _ key.0 key.1 false false None value))

  pub member_typed_field : (ts : List Token) (is_accessor : Bool) (modifiers : Value) (key : Option Key)
      (mark ty value : Value)
      → HeadsMember None (member.typed_field_of ts r is_accessor modifiers key mark ty value)
  unfolding member.typed_field_of
  member_typed_field ts is_accessor modifiers key mark ty value =
      given_none (modifiers_in ts plain modifiers) _ (λ m. given_none key _ (λ key.
      given_none (option_map (λ ty. option_map vPart.TypeAnn ty) (optional type_at ty)) _ (λ ty.
      last_none (optional expr_at value) (λ value. vMember.Prop (with_accessor is_accessor m) key.0 key.1
      (is_mark k.Question (kind_at ts mark 0)) (is_mark k.Exclamation (kind_at ts mark 0)) ty value r)
      (λ value. prop_none _ key.0 key.1 _ _ ty value))))

  pub member_index : (x : List ℕ) (ts : List Token) (modifiers : Value) (o : Option Token) (of : Option TsType)
      (ty : Value) → HeadsMember None (member.index x ts r modifiers o of ty)
  unfolding member.index
  member_index x ts modifiers o of ty =
      given_none (modifiers_in ts plain modifiers) _ (λ m. given_none (option_map (ident_of x) o) _ (λ name.
      given_none (option_map vPart.TypeAnn of) _ (λ of.
      last_none (option_map (λ ty. option_map vPart.TypeAnn ty) (optional type_at ty))
      (λ ty. vMember.TsIndexSignature m name (Some of) ty r)
      (λ ty. head_by (ClassMember-F.TsIndexSignature m name (Some of) ty r) _ _
      (vMember.rolls-TsIndexSignature m name (Some of) ty r) refl))))

-- ---- in a list of each kind
pub in_stmts : (head : Option AHead) (o : Option Stmt) → HeadsStmt head o → HeadsIn head (option_map stmt_head o)
in_stmts head None h = record { heads = tt }
in_stmts head (Some s) h = record { heads = h.heads }

pub in_items : (head : Option AHead) (o : Option ModuleItem) → HeadsItem head o
    → HeadsIn head (option_map item_head o)
in_items head None h = record { heads = tt }
in_items head (Some s) h = record { heads = h.heads }

pub in_members : (head : Option AHead) (o : Option ClassMember) → HeadsMember head o
    → HeadsIn head (option_map member_head o)
in_members head None h = record { heads = tt }
in_members head (Some s) h = record { heads = h.heads }
