-- Names and their types.
use Rattle.std.specs.Prelude.{ℕ, ◌+◌, ◌==◌, ◌||◌, ◌&&◌, Bool, true, false, List, [], ◌∷◌, ◌++◌, Option, Some, None, option_map, if◌then◌else◌, bytes_eq, codes, length, slice_get, slice_range}
use Rattle.std.proofs.Common.{◌≡◌, refl, sym, ap, subst, ◌∙◌}
use Rattle.base.specs.declared.range.Range.{Range}
use Rattle.es_token.specs.declared.token.Token.{Token}
use Rattle.es_ast.specs.declared.ts.leaf.Ident.{Ident}
use Rattle.es_ast.specs.declared.ts.leaf.TsKeywordTypeKind.TheVariants as keyword
use Rattle.es_ast.specs.declared.ts.ts.TsType.{TsType}
use Rattle.es_ast.specs.declared.ts.ts.TsType.TheVariants as vType
use Rattle.es_lowering.specs.Value.{token}
use Rattle.es_lowering.specs.Texts.{ident_of}
use Rattle.es_lowering.specs.Lowering.{packed}
use Rattle.es_syntax.specs.Roles.{ts_type_in}
use Rattle.es_changed.specs.declared.entry.Change.TheVariants as change
use Rattle.es_changed.specs.declared.entry.Form.TheVariants as form
use Rattle.es_changed.specs.declared.entry.Word.TheVariants as word
use Rattle.es_changed.specs.declared.entry.ChangedEntry.{ChangedEntry}
use Rattle.es_changed.specs.Formed.{formed, word_type}
use Rattle.es_changed.specs.Changed.{type_node}
use Rattle.es_changed.specs.Shape.{closed, opened, Writes}
use Rattle.es_changed.proofs.Written.{nothing_written, both_written, form_written}
use Rattle.es_variables.specs.declared.ident.Ident.{Ident as Named}
use Rattle.es_variables.specs.Kept.{Names}
use Rattle.dts_rules.specs.Made.{nowhere, if_true, named_type, typeof_name}
use Rattle.dts_rules.specs.Made as made
use Rattle.dts_rules.specs.Rules as rules
use Rattle.dts_rules.specs.Rules.{free_type, name_type}
use Rattle.dts_rules.specs.Sets.{Id, id_of, is_in}
use Rattle.dts_sets.specs.Ids.{holds}
use Rattle.dts_draft.specs.Written.{IfThere, Puts, Gives}
use Rattle.dts_draft.proofs.There.{lifted}
use Rattle.dts_names.specs.declared.env.Env.{Env}
use Rattle.dts_names.specs.Names.{Knows, IsNamed, IsTypeof, IsNameType, IsArrayName, IsCalled, IsClassName}

pub nothing_there : {P : Token → Type 0} {o : Option Token} → o ≡ None → IfThere P o
nothing_there {P = P} {o = o} e = subst (IfThere P) (sym e) (record { is = tt })

module _ (x : List ℕ) (ts : List Token) where
  pub named_written : {old mid new : List ChangedEntry} {at : ℕ} → Writes x ts old mid []
      → Writes x ts mid new (formed x ts form.Named at (at + 1) (packed (token at ∷ [])) ∷ [])
      → IfThere (IsNamed x ts old new) (slice_get ts at)
  named_written {old = old} {mid = mid} {new = new} {at = at} gone w = go (slice_get ts at) refl
    where
      go : (o : Option Token) → slice_get ts at ≡ o → IfThere (IsNamed x ts old new) o
      go None is = record { is = tt }
      go (Some t) is = record {
        is = record {
          value = formed x ts form.Named at (at + 1) (packed (token at ∷ []));
          writes = both_written x ts old mid new [] _ gone w;
          is = ap (option_map (λ (t : Token). named_type (ident_of x t))) is;
        };
      }

  pub typeof_written : {old begun mid new : List ChangedEntry} {place : ℕ} {o : Option Token} → begun ≡ old ++ opened
      → place ≡ length old → IfThere (IsNamed x ts begun mid) o
      → new ≡ closed (change.Form form.Typeof) 0 0 place mid → IfThere (IsTypeof x ts old new) o
  typeof_written {old = old} {begun = begun} {mid = mid} {new = new} {place = place} {o = o} eo ep h w =
      lifted (λ t p. record {
        value = formed x ts form.Typeof 0 0 (packed (p.value ∷ []));
        writes = form_written x ts form.Typeof 0 0 place old begun mid new (p.value ∷ []) eo ep p.writes w;
        is = ap (option_map (λ ty. vType.Query ty nowhere)) p.is;
      }) h

  -- ---- names that nothing declares, by their spelling
  abbrev free_by : Bool → List ℕ → Option TsType
  free_by c q =
      if c && bytes_eq q (codes "undefined") then Some (made.word keyword.Undefined)
      else (if bytes_eq q (codes "NaN") || bytes_eq q (codes "Infinity") then Some (made.word keyword.Number) else None)

  abbrev by_flags : Bool → Bool → Option TsType
  by_flags a b = if a then Some (made.word keyword.Undefined) else (if b then Some (made.word keyword.Number) else None)

  flagged : (old new : List ChangedEntry) (wrote a b : Bool) (c : Bool) (q : List ℕ) (id : Ident) (env : rules.Env)
      → id.sym ≡ q → (c && bytes_eq q (codes "undefined")) ≡ a
      → (bytes_eq q (codes "NaN") || bytes_eq q (codes "Infinity")) ≡ b
      → Gives x ts ts_type_in old new wrote (by_flags a b) → Gives x ts ts_type_in old new wrote (free_type env id c)
  flagged old new wrote a b c q id env e ea eb g =
      subst (λ (q : List ℕ). Gives x ts ts_type_in old new wrote (free_by c q)) (sym e)
      (subst (λ (a : Bool). Gives x ts ts_type_in old new wrote
      (by_flags a (bytes_eq q (codes "NaN") || bytes_eq q (codes "Infinity")))) (sym ea)
      (subst (λ (b : Bool). Gives x ts ts_type_in old new wrote (by_flags a b)) (sym eb) g))

  pub free_undefined : (old new : List ChangedEntry) (r c : Bool) (q : List ℕ) (id : Ident) (env : rules.Env)
      → r ≡ (c && bytes_eq q (codes "undefined")) → r ≡ true
      → Writes x ts old new (type_node 0 0 (Some (word_type word.Undefined)) ∷ []) → id.sym ≡ q
      → Gives x ts ts_type_in old new true (free_type env id c)
  free_undefined old new r c q id env er is w e =
      flagged old new true true (bytes_eq q (codes "NaN") || bytes_eq q (codes "Infinity")) c q id env e (sym er ∙ is)
      refl (
        refl,
        record { value = type_node 0 0 (Some (word_type word.Undefined)); writes = w; is = refl },
      )

  pub free_number : (old new : List ChangedEntry) (r n c : Bool) (q : List ℕ) (id : Ident) (env : rules.Env)
      → r ≡ (c && bytes_eq q (codes "undefined")) → r ≡ false
      → n ≡ (bytes_eq q (codes "NaN") || bytes_eq q (codes "Infinity")) → n ≡ true
      → Writes x ts old new (type_node 0 0 (Some (word_type word.Number)) ∷ []) → id.sym ≡ q
      → Gives x ts ts_type_in old new true (free_type env id c)
  free_number old new r n c q id env er is en yes_ w e =
      flagged old new true false true c q id env e (sym er ∙ is) (sym en ∙ yes_) (
        refl,
        record { value = type_node 0 0 (Some (word_type word.Number)); writes = w; is = refl },
      )

  pub free_none : (old : List ChangedEntry) (r n c : Bool) (q : List ℕ) (id : Ident) (env : rules.Env)
      → r ≡ (c && bytes_eq q (codes "undefined")) → r ≡ false
      → n ≡ (bytes_eq q (codes "NaN") || bytes_eq q (codes "Infinity")) → n ≡ false → id.sym ≡ q
      → Gives x ts ts_type_in old old false (free_type env id c)
  free_none old r n c q id env er is en none e =
      flagged old old false false false c q id env e (sym er ∙ is) (sym en ∙ none) (refl, nothing_written x ts old)

module _ (env : rules.Env) (it : Env) (knows : Knows it env) where
  abbrev text : List ℕ
  text = it.text.now

  abbrev tokens : List Token
  tokens = it.tokens.now

  -- its number, where it stands
  numbered : (at : ℕ) (id : Named) → Names text tokens it.ids.now at id → (t : Token) → slice_get tokens at ≡ Some t
      → env.number (ident_of text t).span ≡ id.ctxt
  unfolding ident_of
  numbered at id names t there = knows.numbers at t there ∙ sym names.ctxt

  -- its spelling
  spelled : (at : ℕ) (id : Named) (names : Names text tokens it.ids.now at id)
      → (ident_of text names.token).sym ≡ id.sym.now
  unfolding ident_of
  spelled at id names = sym names.sym

  at_token : (P : Token → Type 0) (at : ℕ) (id : Named) (names : Names text tokens it.ids.now at id)
      → P names.token → IfThere P (slice_get tokens at)
  at_token P at id names p = subst (IfThere P) (sym names.there) (record { is = p })

  by_free : (c b : Bool) (id : Ident) → (env.number id.span == env.unresolved) ≡ b
      → name_type env id c
      ≡ (if b then free_type env id c else if_true (is_in env.sets.typeofs (id_of env.number id)) (typeof_name id))
  by_free c b id e =
      ap (λ (b : Bool). if b then free_type env id c else
      if_true (is_in env.sets.typeofs (id_of env.number id)) (typeof_name id)) e

  -- whether it is declared, by its number
  free_is : (b : Bool) (at : ℕ) (id : Named) (names : Names text tokens it.ids.now at id)
      → b ≡ (id.ctxt == it.unresolved) → (env.number (ident_of text names.token).span == env.unresolved) ≡ b
  free_is b at id names e =
      ap (λ (n : ℕ). n == env.unresolved) (numbered at id names names.token names.there)
      ∙ (ap (λ (n : ℕ). id.ctxt == n) knows.unresolved ∙ sym e)

  -- nothing declares it
  pub name_free : (old new : List ChangedEntry) (wrote b c : Bool) (at : ℕ) (id : Named)
      → Names text tokens it.ids.now at id → b ≡ (id.ctxt == it.unresolved) → b ≡ true
      → ((name : Ident) → name.sym ≡ id.sym.now
      → Gives text tokens ts_type_in old new wrote (free_type env name c))
      → IfThere (IsNameType env text tokens c old new wrote) (slice_get tokens at)
  name_free old new wrote b c at id names eb is g =
      at_token (IsNameType env text tokens c old new wrote) at id names
      (subst (Gives text tokens ts_type_in old new wrote)
      (sym (by_free c true (ident_of text names.token) (free_is b at id names eb ∙ is)))
      (g (ident_of text names.token) (spelled at id names)))

  -- it is spelled so, and nothing declares it
  pub called : (b : Bool) (q : List ℕ) (at : ℕ) (id : Named) → Names text tokens it.ids.now at id
      → b ≡ (bytes_eq id.sym.now q && (id.ctxt == it.unresolved))
      → IfThere (IsCalled env text q b) (slice_get tokens at)
  called b q at id names e =
      at_token (IsCalled env text q b) at id names
      (ap (λ (s : List ℕ). bytes_eq s q && (env.number (ident_of text names.token).span == env.unresolved))
      (spelled at id names)
      ∙ (ap (λ (f : Bool). bytes_eq id.sym.now q && f) (free_is (id.ctxt == it.unresolved) at id names refl) ∙ sym e))

  -- a name that something declares, by whether it is in a set
  put_by : (old new : List ChangedEntry) (b : Bool) (ty : TsType) (c : Bool) → c ≡ b → b ≡ true
      → Puts text tokens ts_type_in old new ty → Gives text tokens ts_type_in old new true (if_true c ty)
  put_by old new b ty c e is p =
      subst (λ (c : Bool). Gives text tokens ts_type_in old new true (if_true c ty)) (sym (e ∙ is)) (refl, p)

  none_by : (old : List ChangedEntry) (b : Bool) (ty : TsType) (c : Bool) → c ≡ b → b ≡ false
      → Gives text tokens ts_type_in old old false (if_true c ty)
  none_by old b ty c e is =
      subst (λ (c : Bool). Gives text tokens ts_type_in old old false (if_true c ty)) (sym (e ∙ is))
      (refl, nothing_written text tokens old)

  -- its name with its number, as the rules have it
  id_is : (at : ℕ) (id : Named) (names : Names text tokens it.ids.now at id)
      → id_of env.number (ident_of text names.token) ≡ (id.sym.now, id.ctxt)
  id_is at id names =
      ap (λ (q : List ℕ). (q, env.number (ident_of text names.token).span)) (spelled at id names)
      ∙ ap (λ (n : ℕ). (id.sym.now, n)) (numbered at id names names.token names.there)

  puts_named : (old new : List ChangedEntry) (at : ℕ) (id : Named) (names : Names text tokens it.ids.now at id)
      (P : Token → Type 0) → IfThere P (slice_get tokens at) → P names.token
  puts_named old new at id names P h = there (subst (IfThere P) names.there h)
    where
      there : IfThere P (Some names.token) → P names.token
      there h = h.is

  pub array_written : {old new : List ChangedEntry} {at : ℕ} (b : Bool) (id : Named)
      → Names text tokens it.ids.now at id → b ≡ holds it.known.now.arrays (id.sym.now, id.ctxt) → b ≡ true
      → IfThere (IsTypeof text tokens old new) (slice_get tokens at)
      → IfThere (IsArrayName env text tokens old new true) (slice_get tokens at)
  array_written {old = old} {new = new} {at = at} b id names eb is h =
      at_token (IsArrayName env text tokens old new true) at id names
      (put_by old new b (typeof_name (ident_of text names.token)) _
      (ap (is_in env.sets.arrays) (id_is at id names) ∙ (knows.arrays (id.sym.now, id.ctxt) ∙ sym eb)) is
      (puts_named old new at id names (IsTypeof text tokens old new) h))

  pub array_none : {at : ℕ} (old : List ChangedEntry) (b : Bool) (id : Named) → Names text tokens it.ids.now at id
      → b ≡ holds it.known.now.arrays (id.sym.now, id.ctxt) → b ≡ false
      → IfThere (IsArrayName env text tokens old old false) (slice_get tokens at)
  array_none {at = at} old b id names eb is =
      at_token (IsArrayName env text tokens old old false) at id names
      (none_by old b (typeof_name (ident_of text names.token)) _
      (ap (is_in env.sets.arrays) (id_is at id names) ∙ (knows.arrays (id.sym.now, id.ctxt) ∙ sym eb)) is)

  pub class_written : {old new : List ChangedEntry} {at : ℕ} (b : Bool) (id : Named)
      → Names text tokens it.ids.now at id → b ≡ holds it.known.now.plain (id.sym.now, id.ctxt) → b ≡ true
      → IfThere (IsNamed text tokens old new) (slice_get tokens at)
      → IfThere (IsClassName env text tokens old new true) (slice_get tokens at)
  class_written {old = old} {new = new} {at = at} b id names eb is h =
      at_token (IsClassName env text tokens old new true) at id names
      (put_by old new b (named_type (ident_of text names.token)) _
      (ap (is_in env.sets.plain) (id_is at id names) ∙ (knows.plain (id.sym.now, id.ctxt) ∙ sym eb)) is
      (puts_named old new at id names (IsNamed text tokens old new) h))

  pub class_none : {at : ℕ} (old : List ChangedEntry) (b : Bool) (id : Named) → Names text tokens it.ids.now at id
      → b ≡ holds it.known.now.plain (id.sym.now, id.ctxt) → b ≡ false
      → IfThere (IsClassName env text tokens old old false) (slice_get tokens at)
  class_none {at = at} old b id names eb is =
      at_token (IsClassName env text tokens old old false) at id names
      (none_by old b (named_type (ident_of text names.token)) _
      (ap (is_in env.sets.plain) (id_is at id names) ∙ (knows.plain (id.sym.now, id.ctxt) ∙ sym eb)) is)

  -- it is declared: its number is another one
  declared_type : (f c : Bool) (at : ℕ) (id : Named) (names : Names text tokens it.ids.now at id)
      → f ≡ (id.ctxt == it.unresolved) → f ≡ false
      → name_type env (ident_of text names.token) c
      ≡ if_true (is_in env.sets.typeofs (id_of env.number (ident_of text names.token)))
      (typeof_name (ident_of text names.token))
  declared_type f c at id names ef is = by_free c false (ident_of text names.token) (free_is f at id names ef ∙ is)

  pub typeof_known : {old new : List ChangedEntry} {at : ℕ} (f b c : Bool) (id : Named)
      → Names text tokens it.ids.now at id → f ≡ (id.ctxt == it.unresolved) → f ≡ false
      → b ≡ holds it.known.now.typeofs (id.sym.now, id.ctxt) → b ≡ true
      → IfThere (IsTypeof text tokens old new) (slice_get tokens at)
      → IfThere (IsNameType env text tokens c old new true) (slice_get tokens at)
  typeof_known {old = old} {new = new} {at = at} f b c id names ef fi eb is h =
      at_token (IsNameType env text tokens c old new true) at id names
      (subst (Gives text tokens ts_type_in old new true) (sym (declared_type f c at id names ef fi))
      (put_by old new b (typeof_name (ident_of text names.token)) _
      (ap (is_in env.sets.typeofs) (id_is at id names) ∙ (knows.typeofs (id.sym.now, id.ctxt) ∙ sym eb)) is
      (puts_named old new at id names (IsTypeof text tokens old new) h)))

  pub typeof_none : {at : ℕ} (old : List ChangedEntry) (f b c : Bool) (id : Named)
      → Names text tokens it.ids.now at id → f ≡ (id.ctxt == it.unresolved) → f ≡ false
      → b ≡ holds it.known.now.typeofs (id.sym.now, id.ctxt) → b ≡ false
      → IfThere (IsNameType env text tokens c old old false) (slice_get tokens at)
  typeof_none {at = at} old f b c id names ef fi eb is =
      at_token (IsNameType env text tokens c old old false) at id names
      (subst (Gives text tokens ts_type_in old old false) (sym (declared_type f c at id names ef fi))
      (none_by old b (typeof_name (ident_of text names.token)) _
      (ap (is_in env.sets.typeofs) (id_is at id names) ∙ (knows.typeofs (id.sym.now, id.ctxt) ∙ sym eb)) is))
