-- Methods of TypeScript, by what is written of them.
use Rattle.std.specs.Prelude.{ℕ, ◌+◌, Bool, true, false, List, [], ◌∷◌, ◌++◌, length, map, Option, Some, None}
use Rattle.std.proofs.Common.{◌≡◌, refl, sym, ap, subst, ◌∙◌}
use Rattle.base.specs.declared.range.Range.{Range}
use Rattle.es_token.specs.declared.token.Token.{Token}
use Rattle.es_grammar.specs.declared.rows.NodeKind.{NodeKind}
use Rattle.es_ast.specs.declared.ts.leaf.MethodKind.{MethodKind}
use Rattle.es_ast.specs.declared.leaf.Modifiers.{Modifiers}
use Rattle.es_ast.specs.declared.ast.ClassMember.{ClassMember}
use Rattle.es_ast.specs.declared.ast.ClassMember.TheVariants as vMember
use Rattle.es_ast.specs.declared.ast.Function.{Function}
use Rattle.es_ast.specs.declared.ast.Stmt.{Stmt}
use Rattle.es_lowering.specs.Value.{Value, Signature, nil, more, token, part, as_group, group, first_of, behind, is_there, key_at, signature_at}
use Rattle.es_lowering.specs.Texts.{span_of}
use Rattle.es_lowering.specs.Functions.{Key, plain}
use Rattle.es_lowering.specs.TypedParts.{modifiers_in, body_in, behind_body}
use Rattle.es_lowering.specs.TypedFunctions.{typed_function_of, typed_method_member}
use Rattle.es_lowering.specs.Lowering.{packed}
use Rattle.es_syntax.specs.declared.entry.What.TheVariants as vWhat
use Rattle.es_syntax.specs.declared.entry.Entry.{Entry}
use Rattle.es_syntax.specs.Held.{Held, held, node_of, parts_of}
use Rattle.es_syntax.specs.Places.{place_of}
use Rattle.es_syntax.specs.Roles.{key_in, signature_in}
use Rattle.es_changed.specs.declared.entry.Change.TheVariants as change
use Rattle.es_changed.specs.declared.entry.ChangedEntry.{ChangedEntry}
use Rattle.es_changed.specs.Shape.{closed, opened, Writes}
use Rattle.es_changed.proofs.Written.{both_written, group_written, node_written}
use Rattle.dts_rules.specs.Rules as rules
use Rattle.dts_rules.specs.Rules.{State, after, is_setter}
use Rattle.dts_draft.specs.declared.draft.Draft.{Draft}
use Rattle.dts_draft.specs.Drafts.{state_of}
use Rattle.dts_draft.specs.Written.{IfThere}
use Rattle.dts_fields.specs.Fields.{MemberMade}
use Rattle.dts_member_keys.specs.Keys.{key_rule, KeyPut}
use Rattle.dts_members.specs.Methods.{head_rule, typed_by, typed_of, between, GroupMade, HeadUpTo, IsTyped, MethodPut, NoBody, TypedPut}
use Rattle.dts_members.proofs.MethodLemmas.{bare_is, gone_made, method_keyless, method_listed, method_made}
use Rattle.dts_members.proofs.PlainLemmas.{ends_at}

module _ (x : List ℕ) (ts : List Token) where
  -- ---- bodies
  pub absent_body : (old new : List ChangedEntry) → Writes x ts old new (nil ∷ []) → NoBody x ts old new
  absent_body old new w = record { value = nil; writes = w; is = refl; ends = λ n. refl }

  pub row_body : (es : List Entry) (vs : Value) (n : ℕ) → behind_body (more (held x ts es) vs) n ≡ n
  unfolding held
  row_body es vs n = go (map (λ (p : Held). p.1) (parts_of x ts es))
    where
      go : (them : List Value) → behind_body (more (packed them) vs) n ≡ n
      go [] = refl
      go (v ∷ them) = refl

  row_none : (es : List Entry) (vs : Value) → body_in (more (held x ts es) vs) ≡ Some None
  unfolding held
  row_none es vs = go (map (λ (p : Held). p.1) (parts_of x ts es))
    where
      go : (them : List Value) → body_in (more (packed them) vs) ≡ Some None
      go [] = refl
      go (v ∷ them) = refl

  -- the end of a line stays, a `;` or none
  pub end_body : (old new : List ChangedEntry) (g v vs : Value) (es : List Entry) → g ≡ as_group v
      → g ≡ more (held x ts es) vs
      → Writes x ts old new (v ∷ []) → NoBody x ts old new
  end_body old new g v vs es eg e w = record {
    value = v;
    writes = w;
    is = ap body_in (sym eg ∙ e) ∙ row_none es vs;
    ends = λ m. ap (λ (g : Value). behind_body g m) (sym eg ∙ e) ∙ row_body es vs m;
  }

  pub sign_body : (old new : List ChangedEntry) (g v vs : Value) (n : ℕ) → g ≡ as_group v → g ≡ more (token n) vs
      → Writes x ts old new (v ∷ []) → NoBody x ts old new
  sign_body old new g v vs n eg e w = record {
    value = v;
    writes = w;
    is = ap body_in (sym eg ∙ e);
    ends = λ m. ap (λ (g : Value). behind_body g m) (sym eg ∙ e);
  }

  -- ---- before the head
  pub front_made : (worded : Bool) (old mid new : List ChangedEntry) (p : Value) → worded ≡ true
      → Writes x ts old mid (part p 0 ∷ []) → Writes x ts mid new (part p 1 ∷ [])
      → Writes x ts old new (part p 0 ∷ between worded p)
  front_made worded old mid new p e w0 w1 =
      subst (λ (worded : Bool). Writes x ts old new (part p 0 ∷ between worded p)) (sym e)
      (both_written x ts old mid new (part p 0 ∷ []) (part p 1 ∷ []) w0 w1)

  pub front_alone : (worded : Bool) (old new : List ChangedEntry) (p : Value) → worded ≡ false
      → Writes x ts old new (part p 0 ∷ []) → Writes x ts old new (part p 0 ∷ between worded p)
  front_alone worded old new p e w =
      subst (λ (worded : Bool). Writes x ts old new (part p 0 ∷ between worded p)) (sym e) w

module _ (by : rules.Env) (x : List ℕ) (ts : List Token) where
  -- ---- heads
  pub group_made : (setter : Bool) (old begun keyed marked_ last new : Draft) (place start to : ℕ) (q : Value)
      (key : Option Key) (o : Option Signature)
      → begun.row ≡ old.row ++ opened → place ≡ length old.row → KeyPut x ts begun.row keyed.row key
      → Writes x ts keyed.row marked_.row (part q 1 ∷ []) → state_of marked_ ≡ state_of old
      → IfThere (HeadUpTo x ts by setter marked_ last start to) o
      → new.row ≡ closed (change.Old vWhat.Parts) 0 0 place last.row → state_of new ≡ state_of last
      → IfThere (GroupMade x ts by setter old new start to (is_there (group q 1)) key) o
  group_made setter old begun keyed marked_ last new place start to q key None eo ep k w sm h en sn =
      record { is = tt }
  group_made setter old begun keyed marked_ last new place start to q key (Some sig) eo ep k w sm h en sn = record {
    is = record {
      value = packed (k.puts.value ∷ part q 1 ∷ h.is.made.puts.value ∷ []);
      writes = group_written x ts 0 0 place old.row begun.row last.row new.row
          (k.puts.value ∷ part q 1 ∷ h.is.made.puts.value ∷ []) eo ep
          (both_written x ts begun.row keyed.row last.row (k.puts.value ∷ [])
          (part q 1 ∷ h.is.made.puts.value ∷ []) k.puts.writes
          (both_written x ts keyed.row marked_.row last.row (part q 1 ∷ []) (h.is.made.puts.value ∷ []) w
          h.is.made.puts.writes)) en;
      it = k.key;
      is = k.is;
      key_is = k.puts.is;
      mark_is = refl;
      state = sn ∙ (h.is.made.state ∙ ap (λ (s : State). (head_rule by setter sig s).1) sm);
      signature_is = h.is.made.puts.is ∙ ap (λ (s : State). Some (head_rule by setter sig s).0) sm;
      begins = h.is.begins;
      ends = h.is.ends;
    };
  }

  -- ---- what is written
  pub typed_node : (label : NodeKind) (setter worded : Bool) (kind : MethodKind) (is_async is_generator : Bool)
      (p : Value)
      → is_setter kind ≡ setter → IsTyped x ts label (part p 0) (between worded p) kind is_async is_generator
      → (old begun fronted grouped last new : Draft) (place from to start end_ : ℕ) (mark : Bool) (key : Option Key)
      (sig : Option Signature) (body : Option (Option Stmt))
      → begun.row ≡ old.row ++ opened → place ≡ length old.row
      → Writes x ts begun.row fronted.row (part p 0 ∷ between worded p) → state_of fronted ≡ state_of old
      → IfThere (GroupMade x ts by setter fronted grouped start end_ mark key) sig
      → NoBody x ts grouped.row last.row
      → new.row ≡ closed (change.Old (vWhat.Node label)) from to place last.row → state_of new ≡ state_of grouped
      → TypedPut x ts by old new kind is_async is_generator mark (span_of ts from to) (span_of ts start end_) key
      (modifiers_in ts plain (group p 0)) sig body
  typed_node label setter worded kind a g p ek is old begun fronted grouped last new place from to start end_ mark key
      sig
      body eo ep w0 sf h b en sn =
      go (modifiers_in ts plain (group p 0)) refl sig h body
    where
      r : Range
      r = span_of ts from to

      span : Range
      span = span_of ts start end_

      head_is : (m : Modifiers) → modifiers_in ts plain (group p 0) ≡ Some m → (sig : Signature)
          → GroupMade x ts by setter fronted grouped start end_ mark key sig → (before : Option Stmt)
          → MethodPut x ts by old new kind m mark r (typed_function_of a g span None sig before) key
      head_is m em sig d before = record {
        it = d.it;
        is = d.is;
        function = typed_function_of a g span None (head_rule by setter sig (state_of old)).0 None;
        bare =
            bare_is by a g span sig before (is_setter kind) (state_of old)
            ∙ (ap (λ (b : Bool). after (λ (sig : Signature). typed_function_of a g span None sig None)
            (head_rule by b sig (state_of old))) ek
            ∙ ap (λ (s : State). (typed_function_of a g span None (head_rule by setter sig (state_of old)).0 None, s))
            (sym (sn ∙ (d.state ∙ ap (λ (s : State). (head_rule by setter sig s).1) sf))));
        puts = record {
          value = node_of x ts label from to (packed (part p 0 ∷ between worded p ++ d.value ∷ b.value ∷ []));
          writes = node_written x ts label from to place old.row begun.row last.row new.row
              (part p 0 ∷ between worded p ++ d.value ∷ b.value ∷ []) eo ep
              (both_written x ts begun.row fronted.row last.row (part p 0 ∷ between worded p)
              (d.value ∷ b.value ∷ []) w0
              (both_written x ts fronted.row grouped.row last.row (d.value ∷ []) (b.value ∷ []) d.writes b.writes)) en;
          is =
              is.is from to d.value b.value
              ∙ (ap (λ (o : Option Modifiers). typed_of kind a g mark_ r span_ o key_ sig_ body_) em
              ∙ (ap (λ (o : Option Key). typed_of kind a g mark_ r span_ (Some m) o sig_ body_) d.key_is
              ∙ (ap (λ (o : Option Signature). typed_of kind a g mark_ r span_ (Some m) (Some d.it) o body_)
              d.signature_is
              ∙ (ap (λ (o : Option (Option Stmt)). typed_of kind a g mark_ r span_ (Some m) (Some d.it)
              (Some (head_rule by setter sig (state_of fronted)).0) o) b.is
              ∙ (ap (λ (mark : Bool). made mark span_ (state_of fronted)) d.mark_is
              ∙ (ap (λ (span : Range). made mark span (state_of fronted)) spanned
              ∙ ap (λ (s : State). made mark span s) sf))))));
        };
      }
        where
          mark_ : Bool
          mark_ = is_there (group (as_group d.value) 1)

          key_ : Option Key
          key_ = key_at (as_group d.value) 0

          sig_ : Option Signature
          sig_ = signature_at (as_group d.value) 2

          body_ : Option (Option Stmt)
          body_ = body_in (as_group b.value)

          span_ : Range
          span_ = span_of ts (first_of (part (as_group d.value) 2))
              (behind_body (as_group b.value) (behind (part (as_group d.value) 2)))

          made : Bool → Range → State → Option ClassMember
          made mark span s =
              Some (vMember.Method m kind d.it.0 d.it.1 mark
              (typed_function_of a g span None (head_rule by setter sig s).0 None) r)

          spanned : span_ ≡ span
          spanned =
              ap (λ (n : ℕ). span_of ts (first_of (part (as_group d.value) 2)) n)
              (b.ends (behind (part (as_group d.value) 2)))
              ∙ (ap (λ (n : ℕ). span_of ts n (behind (part (as_group d.value) 2))) d.begins
              ∙ ap (λ (n : ℕ). span_of ts start n) d.ends)

      inner : (m : Modifiers) → modifiers_in ts plain (group p 0) ≡ Some m → (sig : Signature)
          → GroupMade x ts by setter fronted grouped start end_ mark key sig → (body : Option (Option Stmt))
          → IfThere (λ b. MethodPut x ts by old new kind m mark r (typed_function_of a g span None sig b) key) body
      inner m em sig d None = record { is = tt }
      inner m em sig d (Some before) = record { is = head_is m em sig d before }

      outer : (m : Modifiers) → modifiers_in ts plain (group p 0) ≡ Some m → (sig : Option Signature)
          → IfThere (GroupMade x ts by setter fronted grouped start end_ mark key) sig → (body : Option (Option Stmt))
          → IfThere (λ sig. IfThere (λ b. MethodPut x ts by old new kind m mark r
          (typed_function_of a g span None sig b) key) body) sig
      outer m em None h body = record { is = tt }
      outer m em (Some sig) h body = record { is = inner m em sig h.is body }

      go : (o : Option Modifiers) → modifiers_in ts plain (group p 0) ≡ o → (sig : Option Signature)
          → IfThere (GroupMade x ts by setter fronted grouped start end_ mark key) sig → (body : Option (Option Stmt))
          → TypedPut x ts by old new kind a g mark r span key o sig body
      go None em sig h body = record { is = tt }
      go (Some m) em sig h body = record { is = outer m em sig h body }

  -- up to where its body ends
  pub typed_there : (old new : Draft) (kind : MethodKind) (is_async is_generator mark : Bool) (r : Range)
      (key : Option Key) (modifiers : Option Modifiers) (sig : Option Signature) (body : Option (Option Stmt))
      (v g w : Value) (from end_ to : ℕ)
      → place_of v ≡ Some (from, end_) → g ≡ as_group w → behind_body g end_ ≡ to
      → TypedPut x ts by old new kind is_async is_generator mark r (span_of ts (first_of v) to) key modifiers sig body
      → TypedPut x ts by old new kind is_async is_generator mark r
      (span_of ts (first_of v) (behind_body (as_group w) (behind v))) key modifiers sig body
  typed_there old new kind a g_ mark r key modifiers sig body v g w from end_ to ev eg e h =
      subst (λ (n : ℕ). TypedPut x ts by old new kind a g_ mark r (span_of ts (first_of v) n) key modifiers sig body)
      (sym e ∙ (ap (λ (g : Value). behind_body g end_) eg
      ∙ ap (behind_body (as_group w)) (sym (ends_at v from end_ ev)))) h

  -- ---- members
  module _ (kind : MethodKind) (is_async is_generator mark : Bool) (r span : Range) where
    abbrev method_of_ : Option Modifiers → Option Key → Option Signature → Option (Option Stmt) → Option ClassMember
    method_of_ = typed_of kind is_async is_generator mark r span

    abbrev function_ : Signature → Option Stmt → Function
    function_ sig b = typed_function_of is_async is_generator span None sig b

    -- the body of overloads
    pub typed_listed : (old : Draft) (modifiers : Option Modifiers) (key : Option Key) (sig : Option Signature)
        (body : Option (Option Stmt))
        → by.implements r ≡ true → IfThere (MemberMade x ts by old old false) (method_of_ modifiers key sig body)
    typed_listed old None key sig body e = record { is = tt }
    typed_listed old (Some m) None sig body e = record { is = tt }
    typed_listed old (Some m) (Some key) None body e = record { is = tt }
    typed_listed old (Some m) (Some key) (Some sig) None e = record { is = tt }
    typed_listed old (Some m) (Some key) (Some sig) (Some b) e = record {
      is = gone_made by x ts old _ (method_listed by m kind mark r (function_ sig b) key (state_of old) e);
    }

    -- without a key
    pub typed_keyless : (old : Draft) (modifiers : Option Modifiers) (key : Option Key) (sig : Option Signature)
        (body : Option (Option Stmt))
        → IfThere (λ key. key_rule by key ≡ None) key
        → IfThere (MemberMade x ts by old old false) (method_of_ modifiers key sig body)
    typed_keyless old None key sig body e = record { is = tt }
    typed_keyless old (Some m) None sig body e = record { is = tt }
    typed_keyless old (Some m) (Some key) None body e = record { is = tt }
    typed_keyless old (Some m) (Some key) (Some sig) None e = record { is = tt }
    typed_keyless old (Some m) (Some key) (Some sig) (Some b) e = record {
      is = gone_made by x ts old _ (method_keyless by m kind mark r (function_ sig b) key (state_of old) e.is);
    }

    -- any other
    pub typed_kept : (old new : Draft) (modifiers : Option Modifiers) (key : Option Key) (sig : Option Signature)
        (body : Option (Option Stmt))
        → by.implements r ≡ false
        → IfThere (λ key. TypedPut x ts by old new kind is_async is_generator mark r span (key_rule by key) modifiers
        sig body) key
        → IfThere (MemberMade x ts by old new true) (method_of_ modifiers key sig body)
    typed_kept old new None key sig body e h = record { is = tt }
    typed_kept old new (Some m) None sig body e h = record { is = tt }
    typed_kept old new (Some m) (Some key) None body e h = record { is = tt }
    typed_kept old new (Some m) (Some key) (Some sig) None e h = record { is = tt }
    typed_kept old new (Some m) (Some key) (Some sig) (Some b) e h = record {
      is = method_made by m kind mark r (function_ sig b) x ts old new key e h.is.is.is.is;
    }

  -- ---- by the lowering
  pub typed_parts : (old new : Draft) (wrote : Bool) (kind : MethodKind) (is_async is_generator : Bool) (r : Range)
      (modifiers head body key signature : Value) → part head 0 ≡ key → part head 2 ≡ signature
      → IfThere (MemberMade x ts by old new wrote) (typed_of kind is_async is_generator (is_there (group head 1)) r
      (span_of ts (first_of signature) (behind_body body (behind signature))) (modifiers_in ts plain modifiers)
      (key_in key) (signature_in signature) (body_in body))
      → IfThere (MemberMade x ts by old new wrote)
      (typed_by ts kind is_async is_generator r modifiers head body)
  typed_parts old new wrote kind a g r modifiers head body key signature ek es h =
      let P : Value → Value → Type 0 = λ k s.
      IfThere (MemberMade x ts by old new wrote) (typed_of kind a g (is_there (group head 1)) r
      (span_of ts (first_of s) (behind_body body (behind s))) (modifiers_in ts plain modifiers) (key_in k)
      (signature_in s) (body_in body)) in
      subst (λ (k : Value). P k (part head 2)) (sym ek) (subst (P key) (sym es) h)

  -- a group with the head of a method at this part, and what may be a body after it
  pub typed_member : (old new : Draft) (wrote : Bool) (kind : MethodKind) (is_async is_generator : Bool) (r : Range)
      (p : Value) (n : ℕ) (head body : Value) → head ≡ group p n → part p (n + 1) ≡ body
      → IfThere (MemberMade x ts by old new wrote)
      (typed_by ts kind is_async is_generator r (group p 0) head (as_group body))
      → IfThere (MemberMade x ts by old new wrote) (typed_method_member ts kind is_async is_generator r p n)
  unfolding typed_method_member
  typed_member old new wrote kind a g r p n head body eh eb h =
      let P : Value → Value → Type 0 = λ head body.
      IfThere (MemberMade x ts by old new wrote) (typed_by ts kind a g r (group p 0) head (as_group body)) in
      subst (λ (head : Value). P head (part p (n + 1))) eh (subst (P head) (sym eb) h)
