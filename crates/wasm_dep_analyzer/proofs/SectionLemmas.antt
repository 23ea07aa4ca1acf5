-- One more section at the end: what is first of its kind, and what is found.
use Rattle.std.proofs.Common.{◌≡◌, ◌≢◌, ℕ, ◌-◌, ◌<◌, Bool, true, false, cond, eqb, List, [], ◌∷◌, ◌++◌, length, take, Option, Some, None, is_some, Result, Ok, Err, IsOk, Bor, refl, sym, ap, subst, ◌∙◌, inl, inr, arith}
use Rattle.std.specs.Option.{option_map, option_copied}
use Rattle.std.proofs.lemmas.Bool.{eq-eqb, eqb-true, cases_lt, false≢true}
use Rattle.std.proofs.lemmas.List.{length-append, take-append-le, nil_from_length}
use Rattle.std.proofs.Math.Seq.{take-length}
use Rattle.wasm_dep_analyzer.specs.declared.error.ParseError.{ParseError}
use Rattle.wasm_dep_analyzer.specs.declared.error.ParseError.TheVariants.{OutOfMemory}
use Rattle.wasm_dep_analyzer.specs.declared.sections.Found.{Found}
use Rattle.wasm_dep_analyzer.specs.Reading.{◌>>=◌, IsFaultOf}
use Rattle.wasm_dep_analyzer.specs.Values.{u8_at, u32_at, bytes_at}
use Rattle.wasm_dep_analyzer.specs.Sections.{Section, section_at, StandIn, first, held, payload_in, imports_in, exports_in, AreSound, have_all}
use Rattle.wasm_dep_analyzer.specs.Module.{AreLookedAt, IsBodyFault}
use Rattle.wasm_dep_analyzer.specs.Steps.{IsFoundIn, IsFaultIn, HasBodyFault}
use Rattle.wasm_dep_analyzer.proofs.ValuesLemmas.{not_true, given_once, first_is, EndsIn, bind_ok, number_ends, bytes_are}
use Rattle.wasm_dep_analyzer.proofs.LoopLemmas.{fault_on, fault_same}

-- ---- the first section of a kind

stay_step : (kind : ℕ) (s : Section) (ss more : List Section) (b : Bool) → eqb s.kind kind ≡ b
    → (is_some (first kind ss) ≡ true → first kind (ss ++ more) ≡ first kind ss)
    → is_some (first kind (s ∷ ss)) ≡ true → first kind ((s ∷ ss) ++ more) ≡ first kind (s ∷ ss)
unfolding first
stay_step kind s ss more true e behind h = rw e refl
stay_step kind s ss more false e behind h = rw e (behind (rw e at h))

-- a first section stays the first
pub first_stays : (kind : ℕ) (ss more : List Section) → is_some (first kind ss) ≡ true
    → first kind (ss ++ more) ≡ first kind ss
unfolding first
first_stays kind [] more h = absurd cc
first_stays kind (s ∷ ss) more h = stay_step kind s ss more (eqb s.kind kind) refl (first_stays kind ss more) h

-- a section of another kind changes nothing
pub first_other : (kind : ℕ) (ss : List Section) (s : Section) → s.kind ≢ kind
    → first kind (ss ++ s ∷ []) ≡ first kind ss
unfolding first
first_other kind [] s other = rw (not_true (eqb s.kind kind) (λ e. other (eqb-true s.kind kind e))) refl
first_other kind (x ∷ ss) s other =
    ap (λ (o : Option Section). cond (eqb x.kind kind) (Some x) o) (first_other kind ss s other)

new_step : (kind : ℕ) (x : Section) (ss : List Section) (s : Section) (b : Bool) → eqb x.kind kind ≡ b
    → (is_some (first kind ss) ≡ false → first kind (ss ++ s ∷ []) ≡ Some s)
    → is_some (first kind (x ∷ ss)) ≡ false → first kind ((x ∷ ss) ++ s ∷ []) ≡ Some s
unfolding first
new_step kind x ss s true e behind none = let h = rw e at none in absurd (let t : true ≡ false = h in cc)
new_step kind x ss s false e behind none = rw e (behind (rw e at none))

-- a section of a new kind is its first
pub first_new : (kind : ℕ) (ss : List Section) (s : Section) → is_some (first kind ss) ≡ false → s.kind ≡ kind
    → first kind (ss ++ s ∷ []) ≡ Some s
unfolding first
first_new kind [] s none e = rw (eq-eqb s.kind kind e) refl
first_new kind (x ∷ ss) s none e = new_step kind x ss s (eqb x.kind kind) refl (λ h. first_new kind ss s h e) none

-- ---- payloads

pub is_some_map : {A B : Type 0} (f : A → B) (o : Option A) → is_some (option_map f o) ≡ is_some o
is_some_map f None = refl
is_some_map f (Some x) = refl

-- there is a section where there is a payload
payload_is : (kind : ℕ) (ss : List Section) (o : Option (Bor (List ℕ))) → option_copied o ≡ payload_in kind ss
    → is_some (first kind ss) ≡ is_some o
payload_is kind ss o h =
    sym (is_some_map (λ (s : Section). s.payload) (first kind ss)) ∙ ap is_some (sym h)
    ∙ is_some_map (λ (x : Bor (List ℕ)). x.now) o

pub payload_stays : (kind : ℕ) (ss : List Section) (s : Section) (o : Option (Bor (List ℕ))) → is_some o ≡ true
    → option_copied o ≡ payload_in kind ss → option_copied o ≡ payload_in kind (ss ++ s ∷ [])
payload_stays kind ss s o some h =
    h ∙ ap (λ (f : Option Section). option_map (λ x. x.payload) f)
    (sym (first_stays kind ss (s ∷ []) (payload_is kind ss o h ∙ some)))

pub payload_other : (kind : ℕ) (ss : List Section) (s : Section) (o : Option (Bor (List ℕ))) → s.kind ≢ kind
    → option_copied o ≡ payload_in kind ss → option_copied o ≡ payload_in kind (ss ++ s ∷ [])
payload_other kind ss s o other h =
    h ∙ ap (λ (f : Option Section). option_map (λ x. x.payload) f) (sym (first_other kind ss s other))

pub payload_new : (kind : ℕ) (ss : List Section) (s : Section) (o : Option (Bor (List ℕ))) → is_some o ≡ false
    → s.kind ≡ kind → option_copied o ≡ payload_in kind ss → payload_in kind (ss ++ s ∷ []) ≡ Some s.payload
payload_new kind ss s o none e h =
    ap (λ (f : Option Section). option_map (λ x. x.payload) f) (first_new kind ss s (payload_is kind ss o h ∙ none) e)

-- ---- imports and exports

not_none : {A : Type 0} (r : Result (List A) ParseError) (found : Option (List A))
    → (r >>= λ x. Ok (Some x)) ≡ Ok found → true ≡ is_some found
not_none (Ok x) None h = absurd cc
not_none (Ok x) (Some y) h = refl
not_none (Err d) found h = absurd cc

-- something is held exactly where there is a section
pub held_is : {A : Type 0} (items : Section → Result (List A) ParseError) (o : Option Section)
    (found : Option (List A)) → held items o ≡ Ok found → is_some o ≡ is_some found
held_is items None None h = refl
held_is items None (Some x) h = absurd cc
held_is items (Some s) found h = not_none (items s) found h

-- what is held stays
pub held_stays : {A : Type 0} (items : Section → Result (List A) ParseError) (kind : ℕ) (ss more : List Section)
    (found : Option (List A))
    → is_some found ≡ true → held items (first kind ss) ≡ Ok found → held items (first kind (ss ++ more)) ≡ Ok found
held_stays items kind ss more found some h =
    ap (held items) (first_stays kind ss more (held_is items (first kind ss) found h ∙ some)) ∙ h

-- a section of another kind holds nothing of this one
pub held_other : {A : Type 0} (items : Section → Result (List A) ParseError) (kind : ℕ) (ss : List Section)
    (s : Section) (found : Option (List A))
    → s.kind ≢ kind → held items (first kind ss) ≡ Ok found → held items (first kind (ss ++ s ∷ [])) ≡ Ok found
held_other items kind ss s found other h = ap (held items) (first_other kind ss s other) ∙ h

-- what a new section holds
pub held_new : {A : Type 0} (items : Section → Result (List A) ParseError) (kind : ℕ) (ss : List Section) (s : Section)
    (found : Option (List A))
    → is_some found ≡ false → s.kind ≡ kind → held items (first kind ss) ≡ Ok found
    → held items (first kind (ss ++ s ∷ [])) ≡ (items s >>= λ x. Ok (Some x))
held_new items kind ss s found none e h =
    ap (held items) (first_new kind ss s (held_is items (first kind ss) found h ∙ none) e)

-- the fault of a new section
pub held_fault : {A : Type 0} (items : Section → Result (List A) ParseError) (kind : ℕ) (ss : List Section)
    (s : Section) (found : Option (List A)) (e : ParseError)
    → is_some found ≡ false → s.kind ≡ kind → held items (first kind ss) ≡ Ok found → IsFaultOf e (items s)
    → IsFaultOf e (held items (first kind (ss ++ s ∷ [])))
held_fault items kind ss s found e none same h fault =
    fault_same e (items s >>= λ x. Ok (Some x)) (held items (first kind (ss ++ s ∷ [])))
    (sym (held_new items kind ss s found none same h)) (fault_on e (items s) (λ x. Ok (Some x)) fault)

-- ---- sections one behind the other

-- a section stands in front of the rest, and its payload ends where the rest begins
pub record SectionStands (total : ℕ) (bytes : List ℕ) (s : Section) (rest : List ℕ) : Type 0 where
  pub ends : EndsIn bytes (s.payload ++ rest)
  pub shorter : length rest < length bytes
  pub place : s.end ≡ total - length rest

pub section_stands : (total : ℕ) (bytes : List ℕ) (s : Section) (rest : List ℕ) → section_at total bytes ≡ Ok (s, rest)
    → SectionStands total bytes s rest
unfolding section_at
section_stands total bytes s rest h =
    let kind = bind_ok (u8_at bytes)
    (λ kind. u32_at kind.1 >>= λ count. bytes_at count.0 count.1 >>=
    λ payload. Ok (record { kind = kind.0; payload = payload.0; end = total - length payload.1 }, payload.1))
    (s, rest) h in
    let count = bind_ok (u32_at kind.0.1)
    (λ count. bytes_at count.0 count.1 >>=
    λ payload. Ok (record { kind = kind.0.0; payload = payload.0; end = total - length payload.1 }, payload.1))
    (s, rest) kind.2 in
    let payload = bind_ok (bytes_at count.0.0 count.0.1)
    (λ payload. Ok (record { kind = kind.0.0; payload = payload.0; end = total - length payload.1 }, payload.1))
    (s, rest) count.2 in
    let made : Section × List ℕ =
    (record { kind = kind.0.0; payload = payload.0.0; end = total - length payload.0.1 }, payload.0.1) in
    let first_byte : bytes ≡ kind.0.0 ∷ kind.0.1 = first_is bytes kind.0.0 kind.0.1 kind.1 in
    let behind = number_ends 4 kind.0.1 count.0.0 count.0.1 count.1 in
    let spelled : count.0.1 ≡ payload.0.0 ++ payload.0.1 =
    bytes_are count.0.0 count.0.1 payload.0.0 payload.0.1 payload.1 in
    let ends : EndsIn bytes (payload.0.0 ++ payload.0.1) = (
      kind.0.0 ∷ behind.0,
      first_byte
          ∙ ap (λ (x : List ℕ). kind.0.0 ∷ x) (behind.1 ∙ ap (λ (x : List ℕ). behind.0 ++ x) spelled),
    ) in
    let shorter : length payload.0.1 < length bytes =
    omega (
      arith,
      ap length first_byte,
      ap length behind.1,
      ap length spelled,
      length-append behind.0 count.0.1,
      length-append payload.0.0 payload.0.1,
    ) in
    subst (λ (p : Section × List ℕ). SectionStands total bytes p.0 p.1) (given_once made (s, rest) payload.2)
    (record { ends = ends; shorter = shorter; place = refl })

-- one more section
pub StandIn-push : (total : ℕ) (ss : List Section) (bytes rest : List ℕ) (s : Section) (after : List ℕ)
    → StandIn total ss bytes rest → section_at total rest ≡ Ok (s, after) → StandIn total (ss ++ s ∷ []) bytes after
StandIn-push total [] bytes rest s after stand h = (after, ap (section_at total) stand ∙ h, refl)
StandIn-push total (x ∷ ss) bytes rest s after stand h =
    (stand.0, stand.1, StandIn-push total ss stand.0 rest s after stand.2 h)

-- no shorter front passes a test that neither the sections nor their shorter fronts pass
pub shortest_push : (test : List Section → Bool) (ss : List Section) (s : Section)
    → ((n : ℕ) → n < length ss → test (take n ss) ≡ false) → test ss ≡ false
    → (n : ℕ) → n < length (ss ++ s ∷ []) → test (take n (ss ++ s ∷ [])) ≡ false
shortest_push test ss s shorter here n h =
    elim (cases_lt n (length ss)) [
      | inl lt ↦ ap test (take-append-le n ss (s ∷ []) (omega arith)) ∙ shorter n lt
      | inr le ↦
          let all : n ≡ length ss = omega (arith, length-append ss (s ∷ [])) in
          ap test (ap (λ (k : ℕ). take k (ss ++ s ∷ [])) all ∙ take-append-le (length ss) ss (s ∷ []) (omega arith)
          ∙ take-length ss) ∙ here
    ]

-- ---- what is found

pub fault_in_imports : (e : ParseError) (ss : List Section) → IsFaultOf e (imports_in ss) → IsFaultIn e ss
fault_in_imports OutOfMemory ss h = tt
fault_in_imports _ ss h = inl h

pub fault_in_exports : (e : ParseError) (ss : List Section) → IsFaultOf e (exports_in ss) → IsFaultIn e ss
fault_in_exports OutOfMemory ss h = tt
fault_in_exports _ ss h = inr h

-- what is found is sound
pub sound_where_found : (found : Found) (ss : List Section) → IsFoundIn found ss → AreSound ss
sound_where_found found ss h = (subst IsOk (sym h.imports) refl, subst IsOk (sym h.exports) refl)

-- a fault of a body is one, unless memory ran out
pub has_fault : (skip_types : Bool) (total : ℕ) (body : List ℕ) (e : ParseError) (ss : List Section) (rest : List ℕ)
    → IsBodyFault skip_types total body ss rest e → HasBodyFault skip_types total body e
has_fault skip_types total body OutOfMemory ss rest h = tt
has_fault skip_types total body _ ss rest h = (ss, rest, h)

-- faulty imports or exports behind sound sections are a fault of the body
pub has_fault_in : (skip_types : Bool) (total : ℕ) (body : List ℕ) (e : ParseError) (ss : List Section) (rest : List ℕ)
    (s : Section) (after : List ℕ)
    → AreLookedAt skip_types total body ss rest → AreSound ss → have_all skip_types ss ≡ false → rest ≢ []
    → section_at total rest ≡ Ok (s, after)
    → IsFaultIn e (ss ++ s ∷ []) → HasBodyFault skip_types total body e
has_fault_in skip_types total body OutOfMemory ss rest s after looked sound wanting more h fault = tt
has_fault_in skip_types total body _ ss rest s after looked sound wanting more h fault = (
  ss,
  rest,
  record {
    looked = looked;
    sound = sound;
    wanting = wanting;
    more = more;
    fault =
        inr (s, after, h, fault);
  },
)

-- ---- an empty rest

pub empty_is : (bytes : List ℕ) (b : Bool) → b ≡ eqb (length bytes) 0 → b ≡ true → bytes ≡ []
empty_is bytes b h t = nil_from_length bytes (eqb-true (length bytes) 0 (sym h ∙ t))

pub not_empty : (bytes : List ℕ) (b : Bool) → b ≡ eqb (length bytes) 0 → b ≡ false → bytes ≢ []
not_empty bytes b h f = λ e. false≢true (sym f ∙ h ∙ eq-eqb (length bytes) 0 (ap length e))
