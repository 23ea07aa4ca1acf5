-- What the entries of a graph become: the first entries over the answers of a plan.
use Rattle.std.proofs.Common.{◌≡◌, ◌∙◌, refl, sym, ap, subst, ℕ, Bool, true, false, List, [], ◌∷◌, map, Option, Some, None, IsUtf8, inl, inr}
use Rattle.std.specs.Prelude.{codes, MatchOption, option_map, option_and_then, Ok, Err, Result}
use Rattle.std.specs.Result.{result_ok}
use Rattle.std.specs.Str.{is_utf8}
use Rattle.std.proofs.lemmas.Str.{IsUtf8-from_is_utf8}
use Rattle.lexical_path.specs.Specifiers.{begins}
use Rattle.es_site.specs.declared.site.Site.{Site}
use Rattle.es_site.specs.declared.site.DependencyKind.{DependencyKind}
use Rattle.es_site.specs.declared.site.DependencyKind.TheVariants as kind
use Rattle.media_type.specs.declared.media_type.MediaType.{MediaType}
use Rattle.media_type.specs.declared.media_type.ModuleKind.{ModuleKind}
use Rattle.media_type.specs.declared.media_type.ModuleKind.TheVariants as module_kind
use Rattle.media_type.specs.MediaType.{kind_of}
use Rattle.data_specifier.specs.declared.data_module.DataModule.{DataModule}
use Rattle.data_specifier.specs.declared.error.DataError.{DataError}
use Rattle.data_specifier.specs.Data.{data_of}
use Rattle.source_text.specs.module_text.ModuleText.{without_mark}
use Rattle.source_text.specs.declared.text_changes.change.TextChange.{TextChange}
use Rattle.source_text.specs.text_changes.Changes.{changed}
use Rattle.package_ref.specs.declared.reference.PackageRef.{PackageRef}
use Rattle.wasm_dep_analyzer.specs.Imports.{Imported}
use Rattle.wasm_dep_analyzer.specs.Module.{Deps, ReadsModule}
use Rattle.graph_entry.specs.declared.answer.LoadAnswer.{LoadAnswer}
use Rattle.graph_entry.specs.declared.answer.LoadAnswer.TheVariants as answer
use Rattle.graph_entry.specs.declared.entry.Dependency.{Dependency}
use Rattle.graph_entry.specs.declared.entry.JsModule.{JsModule}
use Rattle.graph_entry.specs.declared.entry.JsonModule.{JsonModule}
use Rattle.graph_entry.specs.declared.entry.WasmModule.{WasmModule}
use Rattle.graph_entry.specs.declared.entry.Module.{Module}
use Rattle.graph_entry.specs.declared.entry.Module.TheVariants.{Js, Json, Wasm}
use Rattle.graph_entry.specs.declared.entry.Entry.{Entry}
use Rattle.graph_entry.specs.declared.entry.Entry.TheVariants as entry
use Rattle.graph_entry.specs.Specifier.{text_of, loadable}
use Rattle.graph_entry.specs.Entry.{edge_target}
use Rattle.graph_entry.specs.Resolution.{Resolves, Resolved, resolve, of_any_kind}
use Rattle.graph_entry.specs.Reading.{with_sites, Sites}
use Rattle.graph_entry.specs.Ways.{Ways, default_ways}
use Rattle.graph_entry.specs.Json.{OfJson, with_json, no_json, json_module}
use Rattle.graph_entry.specs.Wasm.{OfWasm, with_imports, faulty, wasm_dependency, wasm_module}
use Rattle.graph_entry.specs.Analysed.{dependency_of, js_module, module_of, source_entry, OfText, OfBytes, with_text, no_text, OfKind, OfContent, media_type_at, OfAnswer, OfData, OfPackage, with_package, no_package, OfUnasked, AnalysedBy, unsupported}
use Rattle.graph_builder.specs.Reach.{Specifier, IsEntry}
use Rattle.graph_builder.specs.Final.{is_redirect}
use Rattle.graph_builder.specs.Graph.{entry_of}
use Rattle.graph_vendor.specs.Names.{Entries, Names, media_of, renamed, literal}
use Rattle.graph_vendor.specs.Refused.{edge_cause, edges_cause, IsOwn}
use Rattle.graph_vendor.specs.Kept.{leads_by, keeps_edge, keep_edges}
use Rattle.graph_vendor.specs.Plan.{literal_to, in_file, bytes_of}
use Rattle.graph_vendor.specs.vendored.Vendored.{new_literals, EdgeMoves, EdgesMove, EntryMoves}
use Rattle.graph_vendor.proofs.vendored.Lists.{both, text_is}
use Rattle.graph_vendor.proofs.vendored.Setting.{Setting, entries_of, names_of, old_rules, new_rules, new_answers}
use Rattle.graph_vendor.proofs.vendored.Entries.{is_free_entry, first_free, known}
use Rattle.graph_vendor.proofs.vendored.Texts.{file_read, file_utf8, read_utf8}
use Rattle.graph_vendor.proofs.vendored.Files.{Named, named, module_renamed, others_named, module_answered, external_answered}
use Rattle.graph_vendor.proofs.vendored.Sources.{SiteFor, SitesFor, AreTexts, new_source}

-- ---- content makes each module of the old graph

pub record Made (ways : Ways) (s : Specifier) (m : Module) : Type 0 where
  pub media : MediaType
  pub bytes : List ℕ
  pub makes : OfContent ways s media bytes (entry.Module m)

by_answer : (ways : Ways) (s : Specifier) (a : LoadAnswer) (m : Module) → OfAnswer ways s a (entry.Module m)
    → Made ways s m
by_answer ways s (answer.Content headers bytes) m h =
    record { media = media_type_at s headers; bytes = bytes; makes = h }
by_answer ways s (answer.Redirect target) m h = absurd (let bad : ⊥ = cc in bad)
by_answer ways s answer.External m h = absurd (let bad : ⊥ = cc in bad)
by_answer ways s answer.Absent m h = absurd (let bad : ⊥ = cc in bad)
by_answer ways s answer.Failed m h = absurd (let bad : ⊥ = cc in bad)

by_data : (ways : Ways) (s : Specifier) (held : Result DataModule DataError) (m : Module)
    → OfData ways s held (entry.Module m) → Made ways s m
by_data ways s (Ok held) m h = record { media = _; bytes = held.body; makes = h }
by_data ways s (Err fault) m h = absurd (let bad : ⊥ = cc in bad)

by_package : (ways : Ways) (s : Specifier) (m : Module) → OfPackage s (entry.Module m) → Made ways s m
by_package ways s m (with_package held is made) = absurd (let bad : ⊥ = cc in bad)
by_package ways s m (no_package none made) = absurd (let bad : ⊥ = cc in bad)

by_unasked : (ways : Ways) (s : Specifier) (data_url : Bool) (m : Module) → OfUnasked ways data_url s (entry.Module m)
    → Made ways s m
by_unasked ways s true m h = by_data ways s (data_of s) m h
by_unasked ways s false m h = by_package ways s m h

by_means : (ways : Ways) (s : Specifier) (a : Option LoadAnswer) (m : Module)
    → AnalysedBy ways s a (entry.Module m) → Made ways s m
unfolding AnalysedBy
by_means ways s (Some a) m h = by_answer ways s a m h
by_means ways s None m h = by_unasked ways s (begins s (codes "data:")) m h

made_of : (v : Setting) (s : Specifier) (m : Module) → IsEntry (old_rules v) v.answers s (entry.Module m)
    → Made v.ways s m
made_of v s m (inl a) = by_means v.ways s (Some a.answer) m a.means
made_of v s m (inr u) = by_means v.ways s None m u.1

-- what a module is by its content
abbrev pub IsGood : Ways → Specifier → Module → Type 0
IsGood ways s (Js m) = (kind_of m.media_type ≡ Some module_kind.Source) × IsUtf8 m.text
IsGood ways s (Json m) = IsUtf8 m.text
IsGood ways s (Wasm m) = (deps : Deps) × ReadsModule true m.bytes (Ok deps)
    × (m.dependencies ≡ map (wasm_dependency (ways.resolves kind.Wasm) s) deps.imports)

same_module : (m n : Module) → entry.Module m ≡ entry.Module n → m ≡ n
same_module m n e = cc

good_source : (ways : Ways) (s : Specifier) (media : MediaType) (text : List ℕ) (found : Sites) (m : Module)
    → kind_of media ≡ Some module_kind.Source → IsUtf8 text
    → entry.Module m ≡ source_entry ways.resolves s media text found → IsGood ways s m
good_source ways s media text (Ok sites) m kind u made =
    let is : m ≡ Js (js_module ways.resolves s media text sites) = same_module m _ made in
    subst (IsGood ways s) (sym is) (kind, u)
good_source ways s media text (Err told) m kind u made = absurd (let bad : ⊥ = cc in bad)

good_bytes : (ways : Ways) (s : Specifier) (media : MediaType) (bytes : List ℕ) (m : Module)
    → kind_of media ≡ Some module_kind.Source → OfBytes ways s media bytes (entry.Module m) → IsGood ways s m
good_bytes ways s media bytes m kind (with_text u of_text) =
    good_source ways s media (without_mark bytes) of_text.sites m kind (read_utf8 bytes u) of_text.is
good_bytes ways s media bytes m kind (no_text isnt made) = absurd (let bad : ⊥ = cc in bad)

good_json : (ways : Ways) (s : Specifier) (bytes : List ℕ) (m : Module) → OfJson bytes (entry.Module m)
    → IsGood ways s m
good_json ways s bytes m (with_json u made) =
    let is : m ≡ Json (record { text = without_mark bytes }) = same_module m _ made in
    subst (IsGood ways s) (sym is) (read_utf8 bytes u)
good_json ways s bytes m (no_json isnt made) = absurd (let bad : ⊥ = cc in bad)

good_wasm : (ways : Ways) (s : Specifier) (bytes : List ℕ) (m : Module) → OfWasm (ways.resolves kind.Wasm) s bytes (entry.Module m)
    → IsGood ways s m
good_wasm ways s bytes m (with_imports deps reads made) =
    let is : m ≡ Wasm (record {
      bytes = bytes;
      dependencies = map (wasm_dependency (ways.resolves kind.Wasm) s) deps.imports;
    }) = same_module m _ made in
    subst (IsGood ways s) (sym is) (deps, reads, refl)
good_wasm ways s bytes m (faulty fault other reads made) = absurd (let bad : ⊥ = cc in bad)

good_kind : (ways : Ways) (s : Specifier) (media : MediaType) (kind : ModuleKind) (bytes : List ℕ) (m : Module)
    → kind_of media ≡ Some kind → OfKind ways s media kind bytes (entry.Module m) → IsGood ways s m
good_kind ways s media module_kind.Source bytes m is h = good_bytes ways s media bytes m is h
good_kind ways s media module_kind.Json bytes m is h = good_json ways s bytes m h
good_kind ways s media module_kind.Wasm bytes m is h = good_wasm ways s bytes m h

good_content : (ways : Ways) (s : Specifier) (media : MediaType) (bytes : List ℕ) (m : Module)
    → OfContent ways s media bytes (entry.Module m) → IsGood ways s m
good_content ways s media bytes m h = by (kind_of media) refl h
  where
    by : (o : Option ModuleKind) → kind_of media ≡ o
        → MatchOption o (entry.Module m ≡ unsupported media) (λ kind. OfKind ways s media kind bytes (entry.Module m))
        → IsGood ways s m
    by None e k = absurd (let bad : ⊥ = cc in bad)
    by (Some kind) e k = good_kind ways s media kind bytes m e k

good : (v : Setting) (s : Specifier) (m : Module) → entry_of (entries_of v) s ≡ Some (entry.Module m)
    → IsGood v.ways s m
good v s m at =
    let made = made_of v s m (known v s (entry.Module m) at).first in
    good_content v.ways s made.media made.bytes m made.makes

-- ---- content makes each module of the new one

-- a module of this kind, of content without headers at its new name
abbrev NewMade : Specifier → Module → List ℕ → Entry → Type 0
NewMade t m bytes made = OfContent default_ways t (media_of m) bytes made

answered : (v : Setting) (s : Specifier) (m : Module) (n : Named (entries_of v) (names_of v) s m) (made : Entry)
    → entry_of (entries_of v) s ≡ Some (entry.Module m)
    → NewMade (text_of n.target) m (bytes_of (entries_of v) (names_of v) m) made
    → IsEntry (new_rules v) (new_answers v) (text_of n.target) made
unfolding AnalysedBy
answered v s m n made at makes =
    let t = text_of n.target in
    let bytes = bytes_of (entries_of v) (names_of v) m in
    inl (record {
      loads = n.serves.loads;
      answer = answer.Content [] bytes;
      given = module_answered v s m n.target at n.at;
      means = subst (λ (media : MediaType). OfContent default_ways t media bytes made) (sym n.serves.media) makes;
    })

-- ---- edges

edge_text : (entries : Entries) (names : Names) (at : Specifier) (r : Resolved) → keeps_edge entries names at r ≡ true
    → (k : DependencyKind) → edge_cause r k ≡ None → IsUtf8 (literal_to entries names r)
edge_text entries names at (Ok url) keeps k none =
    let parts = both (is_utf8 (literal entries names (text_of url))) _ keeps in
    IsUtf8-from_is_utf8 (literal entries names (text_of url)) parts.0
edge_text entries names at (Err fault) keeps k none = absurd (let bad : ⊥ = cc in bad)

all_texts : (entries : Entries) (names : Names) (at : Specifier) (ds : List Dependency)
    → keep_edges entries names at ds ≡ true → edges_cause ds ≡ None → AreTexts entries names ds
all_texts entries names at [] keeps free = tt
all_texts entries names at (d ∷ ds) keeps free =
    let parts = both (keeps_edge entries names at d.resolution) (keep_edges entries names at ds) keeps in
    let causes = first_free d ds free in (
      edge_text entries names at d.resolution parts.0 d.kind causes.0,
      all_texts entries names at ds parts.1 causes.1,
    )

led_to_name : (r : Resolved) (o : Option Specifier) → leads_by r o ≡ true
    → option_map text_of (result_ok r) ≡ o
led_to_name (Ok there) (Some s) h = ap Some (sym (text_is s (text_of there) h))
led_to_name (Ok there) None h = absurd (let bad : ⊥ = cc in bad)
led_to_name (Err fault) o h = absurd (let bad : ⊥ = cc in bad)

-- the new literal leads to the new name
edge_led : (entries : Entries) (names : Names) (at : Specifier) (d : Dependency)
    → keeps_edge entries names at d.resolution ≡ true → edge_cause d.resolution d.kind ≡ None
    → option_map text_of (result_ok (resolve at (literal_to entries names d.resolution)))
    ≡ option_and_then (renamed entries names) (edge_target d)
edge_led entries names at d keeps none = by d.resolution keeps none
  where
    by : (r : Resolved) → keeps_edge entries names at r ≡ true → edge_cause r d.kind ≡ None
        → option_map text_of (result_ok (resolve at (literal_to entries names r)))
        ≡ option_and_then (renamed entries names) (option_map text_of (result_ok r))
    by (Ok url) keeps none =
        let to = text_of url in
        let parts = both (is_utf8 (literal entries names to)) _ keeps in
        led_to_name (resolve at (literal entries names to)) (renamed entries names to) parts.1
    by (Err fault) keeps none = absurd (let bad : ⊥ = cc in bad)

edge_moves : (entries : Entries) (names : Names) (changes : List TextChange) (at : Specifier) (d : Dependency)
    (site : Site) → SiteFor entries names changes d site → keeps_edge entries names at d.resolution ≡ true
    → edge_cause d.resolution d.kind ≡ None → EdgeMoves entries names changes d (dependency_of (of_any_kind resolve) at site)
edge_moves entries names changes at d site is keeps none = record {
  kind = is.kind;
  type_only = is.type_only;
  range = is.range;
  text = is.value;
  attribute = is.attribute;
  target = ap (λ (text : List ℕ). option_map text_of (result_ok (resolve at text))) is.value
      ∙ edge_led entries names at d keeps none;
}

edges_move : (entries : Entries) (names : Names) (changes : List TextChange) (at : Specifier) (ds : List Dependency)
    (sites : List Site) → SitesFor entries names changes ds sites → keep_edges entries names at ds ≡ true
    → edges_cause ds ≡ None → EdgesMove entries names changes ds (map (dependency_of (of_any_kind resolve) at) sites)
edges_move entries names changes at [] [] are keeps free = tt
edges_move entries names changes at [] (site ∷ sites) are keeps free = absurd are
edges_move entries names changes at (d ∷ ds) [] are keeps free = absurd are
edges_move entries names changes at (d ∷ ds) (site ∷ sites) are keeps free =
    let parts = both (keeps_edge entries names at d.resolution) (keep_edges entries names at ds) keeps in
    let causes = first_free d ds free in (
      edge_moves entries names changes at d site are.0 parts.0 causes.0,
      edges_move entries names changes at ds sites are.1 parts.1 causes.1,
    )

-- ---- the new entries

-- what becomes of an entry that is no redirect
pub record Newly (v : Setting) (s : Specifier) (e : Entry) : Type 0 where
  pub name : Specifier
  pub made : Entry
  pub named : renamed (entries_of v) (names_of v) s ≡ Some name
  pub first : IsEntry (new_rules v) (new_answers v) name made
  pub moves : EntryMoves (entries_of v) (names_of v) e made
  pub stays : is_redirect made ≡ false

of_kind : (t : Specifier) (media : MediaType) (kind : ModuleKind) (bytes : List ℕ) (made : Entry)
    → kind_of media ≡ Some kind → OfKind default_ways t media kind bytes made
    → OfContent default_ways t media bytes made
of_kind t media kind bytes made e h =
    subst (λ (o : Option ModuleKind). MatchOption o (made ≡ unsupported media)
    (λ read. OfKind default_ways t media read bytes made)) (sym e) h

new_js : (v : Setting) (s : Specifier) (m : JsModule) → entry_of (entries_of v) s ≡ Some (entry.Module (Js m))
    → Newly v s (entry.Module (Js m))
new_js v s m at =
    let entries = entries_of v in
    let names = names_of v in
    let n = named v s (Js m) at in
    let t = text_of n.target in
    let free = is_free_entry v s (entry.Module (Js m)) at in
    let own : IsOwn v.reads s m = free.0 in
    let is_good : IsGood v.ways s (Js m) = good v s (Js m) at in
    let source = new_source entries names m own.sites is_good.1
    (v.parser s m.media_type m.text own.sites own.read) own.same free.1
    (all_texts entries names t m.dependencies n.serves.edges free.1) in
    let text = changed m.text 0 (new_literals entries names m) in
    let made : Entry = module_of (of_any_kind resolve) t m.media_type text source.sites in
    let read : without_mark (in_file text) ≡ text = file_read text in
    let of_text : OfText default_ways t m.media_type text made =
    record { sites = Ok source.sites; read = with_sites source.sites source.has_sites refl; is = refl } in
    let of_bytes : OfBytes default_ways t m.media_type (in_file text) made =
    with_text (file_utf8 text source.is_text)
    (subst (λ (x : List ℕ). OfText default_ways t m.media_type x made) (sym read) of_text) in
    record {
      name = t;
      made = made;
      named = module_renamed v s (Js m) n.target at n.at;
      first = answered v s (Js m) n made at
          (of_kind t m.media_type module_kind.Source (in_file text) made is_good.0 of_bytes);
      moves = (
        js_module (of_any_kind resolve) t m.media_type text source.sites,
        record {
          media_type = refl;
          text = refl;
          edges = edges_move entries names (new_literals entries names m) t m.dependencies source.sites source.are
              n.serves.edges free.1;
        },
        refl,
      );
      stays = refl;
    }

new_json : (v : Setting) (s : Specifier) (m : JsonModule) → entry_of (entries_of v) s ≡ Some (entry.Module (Json m))
    → Newly v s (entry.Module (Json m))
new_json v s m at =
    let n = named v s (Json m) at in
    let made : Entry = entry.Module (Json m) in
    let is_good : IsUtf8 m.text = good v s (Json m) at in
    let same : made ≡ json_module (without_mark (in_file m.text)) = ap json_module (sym (file_read m.text)) in
    record {
      name = text_of n.target;
      made = made;
      named = module_renamed v s (Json m) n.target at n.at;
      first = answered v s (Json m) n made at (with_json (file_utf8 m.text is_good) same);
      moves = refl;
      stays = refl;
    }

no_imports : (resolves : Resolves) (s : Specifier) (imports : List Imported)
    → edges_cause (map (wasm_dependency resolves s) imports) ≡ None → imports ≡ []
no_imports resolves s [] free = refl
no_imports resolves s (i ∷ imports) free =
    absurd (by (resolves s i.origin)
    (first_free (wasm_dependency resolves s i) (map (wasm_dependency resolves s) imports) free).0)
  where
    by : (r : Resolved) → edge_cause r kind.Wasm ≡ None → ⊥
    by (Ok url) none = let bad : ⊥ = cc in bad
    by (Err fault) none = let bad : ⊥ = cc in bad

-- a module of WebAssembly imports nothing
pub wasm_alone : (v : Setting) (s : Specifier) (m : WasmModule)
    → entry_of (entries_of v) s ≡ Some (entry.Module (Wasm m))
    → m.dependencies ≡ []
wasm_alone v s m at =
    let free : edges_cause m.dependencies ≡ None = is_free_entry v s (entry.Module (Wasm m)) at in
    let is_good : IsGood v.ways s (Wasm m) = good v s (Wasm m) at in
    is_good.2 ∙ ap (map (wasm_dependency (v.ways.resolves kind.Wasm) s))
    (no_imports (v.ways.resolves kind.Wasm) s is_good.0.imports
    (subst (λ (ds : List Dependency). edges_cause ds ≡ None) is_good.2 free))

new_wasm : (v : Setting) (s : Specifier) (m : WasmModule) → entry_of (entries_of v) s ≡ Some (entry.Module (Wasm m))
    → Newly v s (entry.Module (Wasm m))
new_wasm v s m at =
    let n = named v s (Wasm m) at in
    let t = text_of n.target in
    let made : Entry = entry.Module (Wasm m) in
    let free : edges_cause m.dependencies ≡ None = is_free_entry v s made at in
    let is_good : IsGood v.ways s (Wasm m) = good v s (Wasm m) at in
    let deps : Deps = is_good.0 in
    let none : deps.imports ≡ [] =
    no_imports (v.ways.resolves kind.Wasm) s deps.imports
    (subst (λ (ds : List Dependency). edges_cause ds ≡ None) is_good.2 free) in
    let few : m.dependencies ≡ map (wasm_dependency resolve t) deps.imports =
    is_good.2 ∙ ap (map (wasm_dependency (v.ways.resolves kind.Wasm) s)) none
    ∙ sym (ap (map (wasm_dependency resolve t)) none) in
    let same : made ≡ wasm_module resolve t m.bytes deps.imports =
    ap (λ (ds : List Dependency). entry.Module (Wasm (record { bytes = m.bytes; dependencies = ds }))) few in
    record {
      name = t;
      made = made;
      named = module_renamed v s (Wasm m) n.target at n.at;
      first = answered v s (Wasm m) n made at (with_imports deps is_good.1 same);
      moves = refl;
      stays = refl;
    }

-- ---- what is no module

-- content makes a module, or an error
abbrev is_content : Entry → Bool
is_content (entry.Module m) = true
is_content (entry.Error fault) = true
is_content (entry.Redirect target) = false
is_content (entry.Package held) = false
is_content entry.External = false

source_makes : (ways : Ways) (s : Specifier) (media : MediaType) (text : List ℕ) (found : Sites)
    → is_content (source_entry ways.resolves s media text found) ≡ true
source_makes ways s media text (Ok sites) = refl
source_makes ways s media text (Err told) = refl

bytes_make : (ways : Ways) (s : Specifier) (media : MediaType) (bytes : List ℕ) (made : Entry)
    → OfBytes ways s media bytes made → is_content made ≡ true
bytes_make ways s media bytes made (with_text u of_text) =
    ap is_content of_text.is ∙ source_makes ways s media (without_mark bytes) of_text.sites
bytes_make ways s media bytes made (no_text isnt is) = ap is_content is

json_makes : (bytes : List ℕ) (made : Entry) → OfJson bytes made → is_content made ≡ true
json_makes bytes made (with_json u is) = ap is_content is
json_makes bytes made (no_json isnt is) = ap is_content is

wasm_makes : (resolves : Resolves) (s : Specifier) (bytes : List ℕ) (made : Entry) → OfWasm resolves s bytes made
    → is_content made ≡ true
wasm_makes resolves s bytes made (with_imports deps reads is) = ap is_content is
wasm_makes resolves s bytes made (faulty fault other reads is) = ap is_content is

kind_makes : (ways : Ways) (s : Specifier) (media : MediaType) (kind : ModuleKind) (bytes : List ℕ) (made : Entry)
    → OfKind ways s media kind bytes made → is_content made ≡ true
kind_makes ways s media module_kind.Source bytes made h = bytes_make ways s media bytes made h
kind_makes ways s media module_kind.Json bytes made h = json_makes bytes made h
kind_makes ways s media module_kind.Wasm bytes made h = wasm_makes (ways.resolves kind.Wasm) s bytes made h

content_makes : (ways : Ways) (s : Specifier) (media : MediaType) (bytes : List ℕ) (made : Entry)
    → OfContent ways s media bytes made → is_content made ≡ true
content_makes ways s media bytes made h = by (kind_of media) h
  where
    by : (o : Option ModuleKind) → MatchOption o (made ≡ unsupported media)
        (λ kind. OfKind ways s media kind bytes made) → is_content made ≡ true
    by None k = ap is_content k
    by (Some kind) k = kind_makes ways s media kind bytes made k

data_makes : (ways : Ways) (s : Specifier) (held : Result DataModule DataError) (made : Entry)
    → OfData ways s held made → is_content made ≡ true
data_makes ways s (Ok held) made h = content_makes ways s _ held.body made h
data_makes ways s (Err fault) made h = ap is_content h

-- what an answer makes that isn't part of the sources, and what it never makes
answer_external : (ways : Ways) (s : Specifier) (a : LoadAnswer) → OfAnswer ways s a entry.External
    → a ≡ answer.External
answer_external ways s (answer.Content headers bytes) h =
    let yes = content_makes ways s (media_type_at s headers) bytes entry.External h in
    absurd (let bad : ⊥ = cc in bad)
answer_external ways s (answer.Redirect target) h = absurd (let bad : ⊥ = cc in bad)
answer_external ways s answer.External h = refl
answer_external ways s answer.Absent h = absurd (let bad : ⊥ = cc in bad)
answer_external ways s answer.Failed h = absurd (let bad : ⊥ = cc in bad)

answer_package : (ways : Ways) (s : Specifier) (a : LoadAnswer) (held : PackageRef)
    → OfAnswer ways s a (entry.Package held) → ⊥
answer_package ways s (answer.Content headers bytes) held h =
    let yes = content_makes ways s (media_type_at s headers) bytes (entry.Package held) h in
    let bad : ⊥ = cc in bad
answer_package ways s (answer.Redirect target) held h = let bad : ⊥ = cc in bad
answer_package ways s answer.External held h = let bad : ⊥ = cc in bad
answer_package ways s answer.Absent held h = let bad : ⊥ = cc in bad
answer_package ways s answer.Failed held h = let bad : ⊥ = cc in bad

unasked_external : (ways : Ways) (s : Specifier) (data_url : Bool) → OfUnasked ways data_url s entry.External → ⊥
unasked_external ways s true h =
    let yes = data_makes ways s (data_of s) entry.External h in
    let bad : ⊥ = cc in bad
unasked_external ways s false (with_package held is made) = let bad : ⊥ = cc in bad
unasked_external ways s false (no_package none made) = let bad : ⊥ = cc in bad

unasked_package : (ways others : Ways) (s : Specifier) (data_url : Bool) (held : PackageRef)
    → OfUnasked ways data_url s (entry.Package held) → OfUnasked others data_url s (entry.Package held)
unasked_package ways others s true held h =
    let yes = data_makes ways s (data_of s) (entry.Package held) h in
    absurd (let bad : ⊥ = cc in bad)
unasked_package ways others s false held h = h

external_loads : (v : Setting) (s : Specifier) → IsEntry (old_rules v) v.answers s entry.External → loadable s ≡ true
unfolding AnalysedBy
external_loads v s (inl a) = a.loads
external_loads v s (inr u) = absurd (unasked_external v.ways s (begins s (codes "data:")) u.1)

new_external : (v : Setting) (s : Specifier) → entry_of (entries_of v) s ≡ Some entry.External
    → Newly v s entry.External
unfolding AnalysedBy
new_external v s at = record {
  name = s;
  made = entry.External;
  named = others_named v s entry.External at refl refl;
  first = inl (record {
    loads = external_loads v s (known v s entry.External at).first;
    answer = answer.External;
    given = external_answered v s at;
    means = refl;
  });
  moves = refl;
  stays = refl;
}

package_first : (v : Setting) (s : Specifier) (held : PackageRef)
    → IsEntry (old_rules v) v.answers s (entry.Package held)
    → IsEntry (new_rules v) (new_answers v) s (entry.Package held)
unfolding AnalysedBy
package_first v s held (inl a) = absurd (answer_package v.ways s a.answer held a.means)
package_first v s held (inr u) =
    inr (u.0, unasked_package v.ways default_ways s (begins s (codes "data:")) held u.1)

new_package : (v : Setting) (s : Specifier) (held : PackageRef)
    → entry_of (entries_of v) s ≡ Some (entry.Package held) → Newly v s (entry.Package held)
new_package v s held at = record {
  name = s;
  made = entry.Package held;
  named = others_named v s (entry.Package held) at refl refl;
  first = package_first v s held (known v s (entry.Package held) at).first;
  moves = refl;
  stays = refl;
}

pub newly : (v : Setting) (s : Specifier) (e : Entry) → entry_of (entries_of v) s ≡ Some e → is_redirect e ≡ false
    → Newly v s e
newly v s (entry.Redirect target) at stays = absurd (let bad : ⊥ = cc in bad)
newly v s (entry.Module (Js m)) at stays = new_js v s m at
newly v s (entry.Module (Json m)) at stays = new_json v s m at
newly v s (entry.Module (Wasm m)) at stays = new_wasm v s m at
newly v s (entry.Package held) at stays = new_package v s held at
newly v s entry.External at stays = new_external v s at
newly v s (entry.Error fault) at stays = absurd (is_free_entry v s (entry.Error fault) at)
