-- What is read ends in the rest, and so the range of an import cuts its module's name.
use Rattle.std.proofs.Common.{◌≡◌, ℕ, zero, suc, ◌+◌, ◌-◌, ◌%◌, ◌≤◌, Bool, true, false, cond, eqb, List, [], ◌∷◌, ◌++◌, length, take, drop, Option, Some, None, Result, Ok, Err, refl, sym, ap, subst, ◌∙◌, append_assoc, arith}
use Rattle.std.specs.Prelude.{IfOk, nat_lt, slice_range, unwrap_or}
use Rattle.std.specs.List.{AllByRecursion}
use Rattle.std.proofs.lemmas.List.{length-append, take_at, drop_at, take-append-drop}
use Rattle.base.specs.declared.range.Range.{Range}
use Rattle.wasm_dep_analyzer.specs.declared.error.ParseError.{ParseError}
use Rattle.wasm_dep_analyzer.specs.declared.error.ParseError.TheVariants.{NotWasm, UnexpectedEof, UnsupportedVersion, UnknownImportType, UnknownElementType, UnknownTagKind}
use Rattle.wasm_dep_analyzer.specs.declared.deps.WasmDeps.{WasmDeps}
use Rattle.wasm_dep_analyzer.specs.declared.types.ImportType.{ImportType}
use Rattle.wasm_dep_analyzer.specs.declared.types.ImportType.TheVariants.{Function, Table, Memory, Global, Tag}
use Rattle.wasm_dep_analyzer.specs.Reading.{Read, ◌>>=◌}
use Rattle.wasm_dep_analyzer.specs.Values.{u8_at, u32_at, name_at, items_at, vector_at, all_items}
use Rattle.wasm_dep_analyzer.specs.Types.{value_type_of, value_type_at, maximum_at, limits_at, mutability_of, global_type_at, marked, table_at, tag_at, function_at, memory_at, global_at, import_type_of, import_type_at}
use Rattle.wasm_dep_analyzer.specs.Imports.{Imported, range_before, import_at}
use Rattle.wasm_dep_analyzer.specs.Sections.{Section, StandIn, first, held, imports_of, imports_in, exports_in}
use Rattle.wasm_dep_analyzer.specs.Module.{Deps, header_at, version_at, deps_of, ReadsModule, IsOutcome, CutsName, seen}
use Rattle.wasm_dep_analyzer.proofs.ValuesLemmas.{given_once, EndsIn, EndsIn-trans, bind_ok, u8_ends, number_ends, name_stands}
use Rattle.wasm_dep_analyzer.proofs.SectionLemmas.{section_stands}

-- ---- readers

-- what this reads ends in the rest
abbrev IsReader : {A : Type 0} → (List ℕ → Read A) → Type 0
IsReader {A} r = (bytes : List ℕ) (x : A) (rest : List ℕ) → r bytes ≡ Ok (x, rest) → EndsIn bytes rest

reader_then : {A B : Type 0} (r : List ℕ → Read A) (f : A → List ℕ → Read B) → IsReader r → ((x : A) → IsReader (f x))
    → IsReader (λ bytes. r bytes >>= λ p. f p.0 p.1)
reader_then r f before next bytes y rest h =
    let step = bind_ok (r bytes) (λ p. f p.0 p.1) (y, rest) h in
    EndsIn-trans bytes step.0.1 rest (before bytes step.0.0 step.0.1 step.1) (next step.0.0 step.0.1 y rest step.2)

reader_done : {A : Type 0} (x : A) → IsReader (λ bytes. Ok (x, bytes))
reader_done {A} x bytes y rest h =
    ([], ap (λ (p : A × List ℕ). p.1) (given_once {A = A × List ℕ} (x, bytes) (y, rest) h))

reader_test : {A B : Type 0} (test : Result A ParseError) (f : A → List ℕ → Read B) → ((x : A) → IsReader (f x))
    → IsReader (λ bytes. test >>= λ x. f x bytes)
reader_test test f next bytes y rest h =
    let step = bind_ok test (λ x. f x bytes) (y, rest) h in
    next step.0 bytes y rest step.2

reader_fails : {A : Type 0} (e : ParseError) → IsReader {A = A} (λ bytes. Err e)
reader_fails e bytes y rest h = absurd cc

reader_either : {A : Type 0} (b : Bool) (r q : List ℕ → Read A) → IsReader r → IsReader q
    → IsReader (λ bytes. cond b (r bytes) (q bytes))
reader_either true r q before after bytes y rest h = before bytes y rest h
reader_either false r q before after bytes y rest h = after bytes y rest h

u32_reader : IsReader u32_at
u32_reader bytes x rest h = number_ends 4 bytes x rest h

value_type_reader : IsReader value_type_at
unfolding value_type_at
value_type_reader = reader_then u8_at (λ b rest. Ok (value_type_of b, rest)) u8_ends
    (λ b. reader_done (value_type_of b))

maximum_reader : (flag : ℕ) → IsReader (maximum_at flag)
unfolding maximum_at
maximum_reader flag =
    reader_either (eqb (flag % 2) 0) (λ bytes. Ok (None, bytes)) (λ bytes. u32_at bytes >>= λ n. Ok (Some n.0, n.1))
    (reader_done None)
    (reader_then u32_at (λ n rest. Ok (Some n, rest)) u32_reader (λ n. reader_done (Some n)))

limits_reader : IsReader limits_at
unfolding limits_at
limits_reader =
    reader_then u8_at (λ flag a. u32_at a >>= λ initial. maximum_at flag initial.1 >>=
    λ maximum. Ok (record { initial = initial.0; maximum = maximum.0 }, maximum.1)) u8_ends
    (λ flag. reader_then u32_at
    (λ initial b. maximum_at flag b >>=
    λ maximum. Ok (record { initial = initial; maximum = maximum.0 }, maximum.1)) u32_reader
    (λ initial. reader_then (maximum_at flag) (λ maximum c. Ok (record { initial = initial; maximum = maximum }, c))
    (maximum_reader flag) (λ maximum. reader_done (record { initial = initial; maximum = maximum }))))

global_type_reader : IsReader global_type_at
unfolding global_type_at
global_type_reader =
    reader_then value_type_at
    (λ value_type a. u8_at a >>= λ flag. mutability_of flag.0 >>=
    λ mutability. Ok (record { value_type = value_type; mutability = mutability }, flag.1)) value_type_reader
    (λ value_type. reader_then u8_at
    (λ flag b. mutability_of flag >>=
    λ mutability. Ok (record { value_type = value_type; mutability = mutability }, b)) u8_ends
    (λ flag. reader_test (mutability_of flag)
    (λ mutability b. Ok (record { value_type = value_type; mutability = mutability }, b))
    (λ mutability. reader_done (record { value_type = value_type; mutability = mutability }))))

table_reader : IsReader table_at
unfolding table_at
table_reader =
    reader_then u8_at (λ mark a. marked mark 0x70 (UnknownElementType mark) >>= λ _. limits_at a >>=
    λ limits. Ok (Table (record { element_type = mark; limits = limits.0 }), limits.1)) u8_ends
    (λ mark. reader_test (marked mark 0x70 (UnknownElementType mark))
    (λ _ a. limits_at a >>= λ limits. Ok (Table (record { element_type = mark; limits = limits.0 }), limits.1))
    (λ _. reader_then limits_at (λ limits b. Ok (Table (record { element_type = mark; limits = limits }), b))
    limits_reader (λ limits. reader_done (Table (record { element_type = mark; limits = limits })))))

tag_reader : IsReader tag_at
unfolding tag_at
tag_reader =
    reader_then u8_at (λ kind a. marked kind 0 (UnknownTagKind kind) >>= λ _. u32_at a >>=
    λ n. Ok (Tag (record { kind = kind; type_index = n.0 }), n.1)) u8_ends
    (λ kind. reader_test (marked kind 0 (UnknownTagKind kind))
    (λ _ a. u32_at a >>= λ n. Ok (Tag (record { kind = kind; type_index = n.0 }), n.1))
    (λ _. reader_then u32_at (λ n b. Ok (Tag (record { kind = kind; type_index = n }), b)) u32_reader
    (λ n. reader_done (Tag (record { kind = kind; type_index = n })))))

function_reader : IsReader function_at
unfolding function_at
function_reader = reader_then u32_at (λ n a. Ok (Function n, a)) u32_reader (λ n. reader_done (Function n))

memory_reader : IsReader memory_at
unfolding memory_at
memory_reader = reader_then limits_at (λ limits a. Ok (Memory (record { limits = limits }), a)) limits_reader
    (λ limits. reader_done (Memory (record { limits = limits })))

global_reader : IsReader global_at
unfolding global_at
global_reader = reader_then global_type_at (λ g a. Ok (Global g, a)) global_type_reader (λ g. reader_done (Global g))

kind_reader : (kind : ℕ) → IsReader (import_type_of kind)
kind_reader kind =
    reader_either (eqb kind 0) function_at
    (λ bytes. cond (eqb kind 1) (table_at bytes)
    (cond (eqb kind 2) (memory_at bytes)
    (cond (eqb kind 3) (global_at bytes)
    (cond (eqb kind 4) (tag_at bytes) (Err (UnknownImportType kind)))))) function_reader
    (reader_either (eqb kind 1) table_at
    (λ bytes. cond (eqb kind 2) (memory_at bytes)
    (cond (eqb kind 3) (global_at bytes) (cond (eqb kind 4) (tag_at bytes) (Err (UnknownImportType kind)))))
    table_reader
    (reader_either (eqb kind 2) memory_at
    (λ bytes. cond (eqb kind 3) (global_at bytes)
    (cond (eqb kind 4) (tag_at bytes) (Err (UnknownImportType kind)))) memory_reader
    (reader_either (eqb kind 3) global_at (λ bytes. cond (eqb kind 4) (tag_at bytes) (Err (UnknownImportType kind)))
    global_reader
    (reader_either (eqb kind 4) tag_at (λ bytes. Err (UnknownImportType kind)) tag_reader
    (reader_fails (UnknownImportType kind))))))

import_type_reader : IsReader import_type_at
unfolding import_type_at
import_type_reader = reader_then u8_at import_type_of u8_ends kind_reader

-- ---- imports

-- where an import's module name stands, and that the rest stands behind it
record ImportStands (end : ℕ) (bytes : List ℕ) (i : Imported) (rest : List ℕ) : Type 0 where
  behind : List ℕ
  named : EndsIn bytes (i.origin ++ behind)
  range : i.module_range ≡ range_before end i.origin behind
  ends : EndsIn behind rest

import_stands : (end : ℕ) (bytes : List ℕ) (i : Imported) (rest : List ℕ) → import_at end bytes ≡ Ok (i, rest)
    → ImportStands end bytes i rest
unfolding import_at
import_stands end bytes i rest h =
    let made : List ℕ → List ℕ → List ℕ → ImportType → Imported =
    λ origin behind name type. record
    { name = name; origin = origin; module_range = range_before end origin behind; import_type = type } in
    let origin = bind_ok (name_at bytes)
    (λ origin. name_at origin.1 >>= λ name. import_type_at name.1 >>=
    λ type. Ok (made origin.0 origin.1 name.0 type.0, type.1)) (i, rest) h in
    let name = bind_ok (name_at origin.0.1)
    (λ name. import_type_at name.1 >>= λ type. Ok (made origin.0.0 origin.0.1 name.0 type.0, type.1)) (i, rest)
    origin.2 in
    let type = bind_ok (import_type_at name.0.1) (λ type. Ok (made origin.0.0 origin.0.1 name.0.0 type.0, type.1))
    (i, rest) name.2 in
    let second = name_stands origin.0.1 name.0.0 name.0.1 name.1 in
    let past_name : EndsIn origin.0.1 name.0.1 =
    (second.0 ++ name.0.0, second.1 ∙ sym (append_assoc second.0 name.0.0 name.0.1)) in
    let past_type : EndsIn origin.0.1 type.0.1 =
    EndsIn-trans origin.0.1 name.0.1 type.0.1 past_name (import_type_reader name.0.1 type.0.0 type.0.1 type.1) in
    subst (λ (p : Imported × List ℕ). ImportStands end bytes p.0 p.1)
    (given_once {A = Imported × List ℕ} (made origin.0.0 origin.0.1 name.0.0 type.0.0, type.0.1) (i, rest) type.2)
    (record {
      behind = origin.0.1;
      named = name_stands bytes origin.0.0 origin.0.1 origin.1;
      range = refl;
      ends =
          past_type;
    })

-- ---- ranges

-- a name between its front and what follows is cut out by their lengths
cut_is : (input front name back : List ℕ) (start stop : ℕ) → input ≡ front ++ (name ++ back) → start ≡ length front
    → stop ≡ length front + length name
    → (start ≤ stop) × (stop ≤ length input) × (slice_range input start stop ≡ name)
cut_is input front name back start stop is from to =
    let whole = ap length is in
    let width : length name ≡ stop - start = omega arith in
    let dropped : drop start input ≡ name ++ back =
    ap (drop start) is ∙ drop_at front (name ++ back) start (sym from) in (
      omega arith,
      omega (arith, length-append front (name ++ back), length-append name back),
      ap (take (stop - start)) dropped ∙ take_at name back (stop - start) width,
    )

-- an import behind a front of the input, whose payload ends before `after`
import_cuts : (end : ℕ) (input front bytes after : List ℕ) (i : Imported) (rest : List ℕ)
    → input ≡ front ++ (bytes ++ after) → end ≡ length input - length after
    → ImportStands end bytes i rest → CutsName input i
import_cuts end input front bytes after i rest is at s =
    let before = s.named.0 in
    let split : input ≡ (front ++ before) ++ (i.origin ++ (s.behind ++ after)) =
    is ∙ ap (λ (x : List ℕ). front ++ (x ++ after)) s.named.1 ∙ simp append_assoc in
    let size = ap length split in
    let start : i.module_range.start ≡ length (front ++ before) =
    ap (λ (r : Range). r.start) s.range
    ∙ omega (
      arith,
      size,
      length-append front before,
      length-append (front ++ before) (i.origin ++ (s.behind ++ after)),
      length-append i.origin (s.behind ++ after),
      length-append s.behind after,
    ) in
    let stop : i.module_range.end ≡ length (front ++ before) + length i.origin =
    ap (λ (r : Range). r.end) s.range
    ∙ omega (
      arith,
      size,
      length-append front before,
      length-append (front ++ before) (i.origin ++ (s.behind ++ after)),
      length-append i.origin (s.behind ++ after),
      length-append s.behind after,
    ) in
    cut_is input (front ++ before) i.origin (s.behind ++ after) i.module_range.start i.module_range.end split start stop

-- what stands behind an import stands behind a longer front
front_on : (input front bytes after rest : List ℕ) → input ≡ front ++ (bytes ++ after) → (e : EndsIn bytes rest)
    → input ≡ (front ++ e.0) ++ (rest ++ after)
front_on input front bytes after rest is e = is ∙ ap (λ (x : List ℕ). front ++ (x ++ after)) e.1 ∙ simp append_assoc

past_import : (end : ℕ) (bytes : List ℕ) (i : Imported) (rest : List ℕ) → ImportStands end bytes i rest
    → EndsIn bytes rest
past_import end bytes i rest s =
    EndsIn-trans bytes s.behind rest
    (s.named.0 ++ i.origin, s.named.1 ∙ sym (append_assoc s.named.0 i.origin s.behind)) s.ends

-- all imports of a payload
items_cut : (count end : ℕ) (input front bytes after : List ℕ) (is : List Imported) (rest : List ℕ)
    → input ≡ front ++ (bytes ++ after) → end ≡ length input - length after
    → items_at (import_at end) count bytes ≡ Ok (is, rest) → AllByRecursion (CutsName input) is
unfolding items_at
items_cut zero end input front bytes after is rest split at h =
    let none : [] ≡ is =
    ap (λ (p : List Imported × List ℕ). p.0) (given_once {A = List Imported × List ℕ} ([], bytes) (is, rest) h) in
    subst (AllByRecursion (CutsName input)) none tt
items_cut (suc count) end input front bytes after is rest split at h =
    let one = bind_ok (import_at end bytes)
    (λ first. items_at (import_at end) count first.1 >>= λ others. Ok (first.0 ∷ others.0, others.1)) (is, rest)
    h in
    let more = bind_ok (items_at (import_at end) count one.0.1) (λ others. Ok (one.0.0 ∷ others.0, others.1))
    (is, rest) one.2 in
    let stands = import_stands end bytes one.0.0 one.0.1 one.1 in
    let past = past_import end bytes one.0.0 one.0.1 stands in
    let all : one.0.0 ∷ more.0.0 ≡ is =
    ap (λ (p : List Imported × List ℕ). p.0)
    (given_once {A = List Imported × List ℕ} (one.0.0 ∷ more.0.0, more.0.1) (is, rest) more.2) in
    subst (AllByRecursion (CutsName input)) all (
      import_cuts end input front bytes after one.0.0 one.0.1 split at stands,
      items_cut count end input (front ++ past.0) one.0.1 after more.0.0 more.0.1
          (front_on input front bytes after one.0.1 split past) at more.1,
    )

-- all imports of a section that stands in the input
section_cut : (input front after : List ℕ) (s : Section) (is : List Imported) → input ≡ front ++ (s.payload ++ after)
    → s.end ≡ length input - length after
    → imports_of s ≡ Ok is → AllByRecursion (CutsName input) is
unfolding all_items vector_at
section_cut input front after s is split at h =
    let items = bind_ok (vector_at (import_at s.end) s.payload) (λ items. Ok items.0) is h in
    let count = bind_ok (u32_at s.payload) (λ count. items_at (import_at s.end) count.0 count.1) items.0 items.1 in
    let past = number_ends 4 s.payload count.0.0 count.0.1 count.1 in
    subst (AllByRecursion (CutsName input)) (given_once items.0.0 is items.2)
    (items_cut count.0.0 s.end input (front ++ past.0) count.0.1 after items.0.0 items.0.1
    (front_on input front s.payload after count.0.1 split past) at count.2)

-- ---- where a section stands

-- a section stands in the body behind some front
record StandsIn (total : ℕ) (body : List ℕ) (s : Section) : Type 0 where
  front : List ℕ
  after : List ℕ
  is : body ≡ front ++ (s.payload ++ after)
  at : s.end ≡ total - length after

stands_behind : (total : ℕ) (body later : List ℕ) (s : Section) → EndsIn body later → StandsIn total later s
    → StandsIn total body s
stands_behind total body later s e h = record {
  front = e.0 ++ h.front;
  after = h.after;
  is = e.1 ∙ ap (λ (x : List ℕ). e.0 ++ x) h.is ∙ sym (append_assoc e.0 h.front (s.payload ++ h.after));
  at = h.at;
}

choose_section : (kind : ℕ) (x s : Section) (o : Option Section) (b : Bool) (P : Section → Type 0)
    → cond b (Some x) o ≡ Some s → P x → (o ≡ Some s → P s) → P s
choose_section kind x s o true P h here later = let same : x ≡ s = cc in subst P same here
choose_section kind x s o false P h here later = later h

first_stands : (total kind : ℕ) (ss : List Section) (body rest : List ℕ) (s : Section) → StandIn total ss body rest
    → first kind ss ≡ Some s → StandsIn total body s
unfolding first
first_stands total kind [] body rest s stand h = absurd cc
first_stands total kind (x ∷ ss) body rest s stand h =
    let here = section_stands total body x stand.0 stand.1 in
    let past : EndsIn body stand.0 =
    (here.ends.0 ++ x.payload, here.ends.1 ∙ sym (append_assoc here.ends.0 x.payload stand.0)) in
    choose_section kind x s (first kind ss) (eqb x.kind kind) (λ y. StandsIn total body y) h
    (record { front = here.ends.0; after = stand.0; is = here.ends.1; at = here.place })
    (λ later. stands_behind total body stand.0 s past (first_stands total kind ss stand.0 rest s stand.2 later))

-- ---- the header

unless_given : {A : Type 0} (b : Bool) (e : ParseError) (r : Result A ParseError) (x : A) → cond b (Err e) r ≡ Ok x
    → r ≡ Ok x
unless_given true e r x h = absurd cc
unless_given false e r x h = h

where_given : {A : Type 0} (b : Bool) (e : ParseError) (r : Result A ParseError) (x : A) → cond b r (Err e) ≡ Ok x
    → r ≡ Ok x
where_given true e r x h = h
where_given false e r x h = absurd cc

header_ends : (input body : List ℕ) → header_at input ≡ Ok body → EndsIn input body
unfolding header_at
header_ends input body h =
    let long = unless_given (nat_lt (length input) 4) NotWasm _ body h in
    let magic = where_given _ NotWasm (version_at (drop 4 input)) body long in
    let whole = unless_given (nat_lt (length (drop 4 input)) 4) UnexpectedEof _ body magic in
    let version = where_given _ (UnsupportedVersion _) (Ok (drop 4 (drop 4 input))) body whole in
    let is : drop 4 (drop 4 input) ≡ body = given_once (drop 4 (drop 4 input)) body version in
    EndsIn-trans input (drop 4 input) body (take 4 input, sym (take-append-drop 4 input)) (
      take 4 (drop 4 input),
      sym (take-append-drop 4 (drop 4 input))
          ∙ ap (λ (x : List ℕ). take 4 (drop 4 input) ++ x) is,
    )

-- ---- modules

held_cut : (P : Imported → Type 0) (o : Option Section) (found : Option (List Imported)) → held imports_of o ≡ Ok found
    → ((s : Section) (is : List Imported) → o ≡ Some s → imports_of s ≡ Ok is → AllByRecursion P is)
    → AllByRecursion P (unwrap_or found [])
held_cut P None None h cut = tt
held_cut P None (Some is) h cut = absurd cc
held_cut P (Some s) found h cut =
    let is = bind_ok (imports_of s) (λ x. Ok (Some x)) found h in
    subst (λ (f : Option (List Imported)). AllByRecursion P (unwrap_or f [])) (given_once (Some is.0) found is.2)
    (cut s is.0 refl is.1)

-- the ranges of a module's imports cut their modules' names
pub cuts_names : (skip_types : Bool) (input : List ℕ) (deps : Deps) → ReadsModule skip_types input (Ok deps)
    → AllByRecursion (CutsName input) deps.imports
unfolding deps_of
cuts_names skip_types input deps h =
    let ss = h.2 in
    let found = bind_ok (imports_in ss)
    (λ found. exports_in ss >>= λ listed. Ok (record { imports = unwrap_or found []; exports = _ })) deps h.5 in
    let listed = bind_ok (exports_in ss) (λ listed. Ok (record { imports = unwrap_or found.0 []; exports = _ })) deps
    found.2 in
    let same : unwrap_or found.0 [] ≡ deps.imports = ap (λ (d : Deps). d.imports) (given_once _ deps listed.2) in
    let header = header_ends input h.0 h.1 in
    subst (AllByRecursion (CutsName input)) same
    (held_cut (CutsName input) (first 2 ss) found.0 found.1
    (λ s is there of.
    let stands = first_stands (length input) 2 ss h.0 h.3 s h.4.0.stand there in
    let whole = stands_behind (length input) input h.0 s header stands in
    section_cut input whole.front whole.after s is whole.is whole.at of))

-- the same of what was answered
pub cuts_answered : (skip_types : Bool) (input : List ℕ) (result : Result WasmDeps ParseError)
    → IsOutcome skip_types input result
    → IfOk result (λ deps. AllByRecursion (CutsName input) (seen deps).imports)
cuts_answered skip_types input (Ok deps) h = cuts_names skip_types input (seen deps) h
cuts_answered skip_types input (Err e) h = tt
