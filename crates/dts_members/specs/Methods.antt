-- Methods as declarations have them.
use Rattle.std.specs.Prelude.{◌≡◌, ℕ, Bool, true, false, List, [], ◌∷◌, ◌++◌, Option, Some, None}
use Rattle.base.specs.declared.range.Range.{Range}
use Rattle.es_token.specs.declared.token.Token.{Token}
use Rattle.es_grammar.specs.declared.rows.NodeKind.{NodeKind}
use Rattle.es_grammar.specs.declared.rows.NodeKind.TheVariants as l
use Rattle.es_ast.specs.declared.ts.leaf.MethodKind.{MethodKind}
use Rattle.es_ast.specs.declared.ts.ts.TsPart.{TsPart}
use Rattle.es_ast.specs.declared.leaf.Modifiers.{Modifiers}
use Rattle.es_ast.specs.declared.ast.ClassMember.{ClassMember}
use Rattle.es_ast.specs.declared.ast.ClassMember.TheVariants as vMember
use Rattle.es_ast.specs.declared.ast.Function.{Function}
use Rattle.es_ast.specs.declared.ast.Param.{Param}
use Rattle.es_ast.specs.declared.ast.Stmt.{Stmt}
use Rattle.es_lowering.specs.Value.{Value, Signature, given, part, as_group, group, first_of, behind, is_there, key_at, signature_at}
use Rattle.es_lowering.specs.Texts.{span_of}
use Rattle.es_lowering.specs.Functions.{Key, plain, function_of}
use Rattle.es_lowering.specs.Classes.{modified}
use Rattle.es_lowering.specs.TypedParts.{modifiers_in, body_in, behind_body}
use Rattle.es_lowering.specs.TypedFunctions.{typed_function_of}
use Rattle.es_lowering.specs.Lowering.{packed}
use Rattle.es_syntax.specs.Held.{node_of}
use Rattle.es_syntax.specs.Roles.{member_in, params_in, signature_in}
use Rattle.es_changed.specs.declared.entry.ChangedEntry.{ChangedEntry}
use Rattle.es_changed.specs.declared.entry.Form.{Form}
use Rattle.es_changed.specs.declared.entry.Form.TheVariants as form
use Rattle.es_changed.specs.Formed.{formed, method_of}
use Rattle.es_changed.specs.Shape.{Writes}
use Rattle.dts_rules.specs.Rules as rules
use Rattle.dts_rules.specs.Rules.{Run, after, in_turn, is_setter}
use Rattle.dts_rules.specs.Programs.{shown_function}
use Rattle.dts_draft.specs.declared.draft.Draft.{Draft}
use Rattle.dts_draft.specs.Drafts.{state_of}
use Rattle.dts_draft.specs.Written.{IfThere, Puts}
use Rattle.dts_names.specs.declared.env.Env.{Env}
use Rattle.dts_names.specs.Names.{Knows}
use Rattle.dts_parts.specs.Groups.{annotation_in}
use Rattle.dts_parts.specs.Params.{param_rule, Made}
use Rattle.dts_member_keys.specs.declared.keys.MemberKey.{MemberKey}
use Rattle.dts_member_keys.specs.Keys.{Tells}
use Rattle.dts_members.specs.Members.{MemberBy}

-- ---- what is before a body
-- parameters by the rules; the result as it is, or gone
abbrev pub head_rule : rules.Env → Bool → Signature → Run Signature
head_rule by setter sig s = after (λ ps. (sig.0, ps, rules.unless by setter sig.2)) (in_turn (param_rule by) sig.1 s)

module _ (x : List ℕ) (ts : List Token) where
  -- parameters by the rules, in a node from one token up to another
  pub record ParamsUpTo (by : rules.Env) (old new : Draft) (start to : ℕ) (before : List Param) : Type 0 where
    pub made : Made x ts params_in (in_turn (param_rule by)) old new before
    pub begins : first_of made.puts.value ≡ start
    pub ends : behind made.puts.value ≡ to

  -- the same of a signature
  pub record HeadUpTo (by : rules.Env) (setter : Bool) (old new : Draft) (start to : ℕ) (before : Signature)
      : Type 0 where
    pub made : Made x ts signature_in (head_rule by setter) old new before
    pub begins : first_of made.puts.value ≡ start
    pub ends : behind made.puts.value ≡ to

  -- a result, as it is or gone
  pub record ResultMade (by : rules.Env) (setter : Bool) (old new : List ChangedEntry) (before : Option TsPart)
      : Type 0 where
    pub value : Value
    pub writes : Writes x ts old new (value ∷ [])
    pub is : annotation_in (as_group value) ≡ Some (rules.unless by setter before)

  -- no body
  pub record NoBody (old new : List ChangedEntry) : Type 0 where
    pub value : Value
    pub writes : Writes x ts old new (value ∷ [])
    pub is : body_in (as_group value) ≡ Some None
    pub ends : (n : ℕ) → behind_body (as_group value) n ≡ n

  -- ---- methods
  -- a method is written by the rules, without its body, and with this key
  pub record MethodPut (by : rules.Env) (old new : Draft) (kind : MethodKind) (modifiers : Modifiers) (mark : Bool)
      (r : Range) (before : Function) (key : Option Key) : Type 0 where
    pub it : Key
    pub is : key ≡ Some it
    pub function : Function
    pub bare : (shown_function by before).bare true (is_setter kind) (state_of old) ≡ (function, state_of new)
    pub puts : Puts x ts member_in old.row new.row (vMember.Method modifiers kind it.0 it.1 mark function r)

  -- of JavaScript, where its parts are there
  abbrev pub PlainPut : rules.Env → Draft → Draft → MethodKind → Bool → Bool → Bool → Range → Range → Option Key
      → Option (List Param) → Option Stmt → Type 0
  PlainPut by old new kind is_async is_generator is_static r span key params body =
      IfThere (λ ps. IfThere (λ b. MethodPut by old new kind (modified is_static false) false r
      (function_of is_async is_generator span None ps b) key) body) params

  -- of TypeScript
  abbrev pub TypedPut : rules.Env → Draft → Draft → MethodKind → Bool → Bool → Bool → Range → Range → Option Key
      → Option Modifiers → Option Signature → Option (Option Stmt) → Type 0
  TypedPut by old new kind is_async is_generator mark r span key modifiers sig body =
      IfThere (λ m. IfThere (λ sig. IfThere (λ b. MethodPut by old new kind m mark r
      (typed_function_of is_async is_generator span None sig b) key) body) sig) modifiers

  -- a group of a key, a mark and a signature, which is what the rules make of this one, from one token up to another
  pub record GroupMade (by : rules.Env) (setter : Bool) (old new : Draft) (start to : ℕ) (mark : Bool)
      (key : Option Key) (before : Signature) : Type 0 where
    pub value : Value
    pub writes : Writes x ts old.row new.row (value ∷ [])
    pub it : Key
    pub is : key ≡ Some it
    pub key_is : key_at (as_group value) 0 ≡ Some it
    pub mark_is : is_there (group (as_group value) 1) ≡ mark
    pub state : state_of new ≡ (head_rule by setter before (state_of old)).1
    pub signature_is : signature_at (as_group value) 2 ≡ Some (head_rule by setter before (state_of old)).0
    pub begins : first_of (part (as_group value) 2) ≡ start
    pub ends : behind (part (as_group value) 2) ≡ to

-- ---- what methods are, of their parts
-- of JavaScript
abbrev pub plain_of : MethodKind → Bool → Bool → Bool → Range → Range → Option Key → Option (List Param) → Option Stmt
    → Option ClassMember
plain_of kind is_async is_generator is_static r span key params body =
    given key (λ key.
    given params (λ ps.
    given body (λ b.
    Some (vMember.Method (modified is_static false) kind key.0 key.1 false
    (function_of is_async is_generator span None ps b) r))))

-- of TypeScript
abbrev pub typed_of : MethodKind → Bool → Bool → Bool → Range → Range → Option Modifiers → Option Key
    → Option Signature → Option (Option Stmt) → Option ClassMember
typed_of kind is_async is_generator mark r span modifiers key sig body =
    given modifiers (λ m.
    given key (λ key.
    given sig (λ sig.
    given body (λ b.
    Some (vMember.Method m kind key.0 key.1 mark (typed_function_of is_async is_generator span None sig b) r)))))

-- the same of a group with its head and of a body
abbrev pub typed_by : List Token → MethodKind → Bool → Bool → Range → Value → Value → Value → Option ClassMember
typed_by ts kind is_async is_generator r modifiers head body =
    typed_of kind is_async is_generator (is_there (group head 1)) r
    (span_of ts (first_of (part head 2)) (behind_body body (behind (part head 2)))) (modifiers_in ts plain modifiers)
    (key_at head 0) (signature_at head 2) (body_in body)

-- what this form is read as: such a method
pub record IsForm (f : Form) (kind : MethodKind) (is_async is_generator : Bool) : Type 0 where
  pub is : (x : List ℕ) (ts : List Token) (from to : ℕ) (p : Value)
      → member_in (formed x ts f from to p) ≡ method_of ts kind is_async is_generator (span_of ts from to) p

-- of methods that are no accessors, and of accessors
abbrev pub method_form : Bool → Bool → Form
method_form true true = form.AsyncGeneratorMethod
method_form true false = form.AsyncMethod
method_form false true = form.GeneratorMethod
method_form false false = form.Method

abbrev pub accessor_form : Bool → Form
accessor_form true = form.Setter
accessor_form false = form.Getter

module _ (x : List ℕ) (ts : List Token) where
  -- what a node of this alternative is read as, over its modifiers, other parts, a group with its head, and a body: such a
  -- method
  pub record IsTyped (label : NodeKind) (modifiers : Value) (others : List Value) (kind : MethodKind)
      (is_async is_generator : Bool) : Type 0 where
    pub is : (from to : ℕ) (head body : Value)
        → member_in (node_of x ts label from to (packed (modifiers ∷ others ++ head ∷ body ∷ [])))
        ≡ typed_by ts kind is_async is_generator (span_of ts from to) (as_group modifiers) (as_group head) (as_group body)

-- methods that are neither accessors nor `async`
abbrev pub typed_label : Bool → NodeKind
typed_label true = l.TypedGeneratorMember
typed_label false = l.TypedMethodMember

-- what is between the modifiers and the head: a part, or none
abbrev pub between : Bool → Value → List Value
between true p = part p 1 ∷ []
between false p = []

-- ---- by whatever the rules go
abbrev pub UpToBy : Env → Draft → Draft → ℕ → ℕ → Option (List Param) → Type 0
UpToBy it old new start to o =
    (by : rules.Env) → Knows it by → IfThere (ParamsUpTo it.text.now it.tokens.now by old new start to) o

abbrev pub HeadBy : Env → Bool → Draft → Draft → ℕ → ℕ → Option Signature → Type 0
HeadBy it setter old new start to o =
    (by : rules.Env) → Knows it by → IfThere (HeadUpTo it.text.now it.tokens.now by setter old new start to) o

-- with the key that a member shows
abbrev pub GroupBy : Env → Bool → Draft → Draft → ℕ → ℕ → Bool → MemberKey → Option Signature → Type 0
GroupBy it setter old new start to mark shown o =
    (by : rules.Env) → Knows it by → (key : Option Key) → Tells it.text.now it.tokens.now shown key
    → IfThere (GroupMade it.text.now it.tokens.now by setter old new start to mark key) o

abbrev pub PlainBy : Env → MemberKey → Form → Draft → Draft → Bool → Range → Range → Option (List Param) → Option Stmt
    → Type 0
PlainBy it shown f old new is_static r span params body =
    (by : rules.Env) → Knows it by → (kind : MethodKind) (is_async is_generator : Bool)
    → IsForm f kind is_async is_generator → (key : Option Key) → Tells it.text.now it.tokens.now shown key
    → PlainPut it.text.now it.tokens.now by old new kind is_async is_generator is_static r span key params body

abbrev pub TypedBy : Env → MemberKey → NodeKind → Bool → Draft → Draft → Bool → Range → Range → Value → List Value
    → Option Signature → Option (Option Stmt) → Type 0
TypedBy it shown label setter old new mark r span modifiers others sig body =
    (by : rules.Env) → Knows it by → (kind : MethodKind) (is_async is_generator : Bool) → is_setter kind ≡ setter
    → IsTyped it.text.now it.tokens.now label modifiers others kind is_async is_generator → (key : Option Key)
    → Tells it.text.now it.tokens.now shown key
    → TypedPut it.text.now it.tokens.now by old new kind is_async is_generator mark r span key
    (modifiers_in it.tokens.now plain (as_group modifiers)) sig body

-- a method of this form, and one of this alternative
abbrev pub PlainMethodBy : Env → List Range → Form → Draft → Draft → Bool
    → (MethodKind → Bool → Bool → Option ClassMember) → Type 0
PlainMethodBy it ranges f old new wrote read =
    (kind : MethodKind) (is_async is_generator : Bool) → IsForm f kind is_async is_generator
    → MemberBy it ranges old new wrote (read kind is_async is_generator)

abbrev pub TypedMethodBy : Env → List Range → NodeKind → Bool → Draft → Draft → Bool → Value → List Value
    → (MethodKind → Bool → Bool → Option ClassMember) → Type 0
TypedMethodBy it ranges label setter old new wrote modifiers others read =
    (kind : MethodKind) (is_async is_generator : Bool) → is_setter kind ≡ setter
    → IsTyped it.text.now it.tokens.now label modifiers others kind is_async is_generator
    → MemberBy it ranges old new wrote (read kind is_async is_generator)
