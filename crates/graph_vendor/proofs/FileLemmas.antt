-- The new literals of a source: a change for each of its sites.
use Rattle.std.proofs.Common.{◌≡◌, ◌∙◌, refl, sym, ap, subst, ℕ, ◌+◌, ◌≤◌, ◌<◌, List, [], ◌∷◌, ◌++◌, length, take, map, get_or, slice_get, arith, Option, Some, None, Ok, Err, false}
use Rattle.std.specs.Prelude.{chars, encode_utf8_all, String, string_bytes}
use Rattle.std.specs.Option.{option_or}
use Rattle.std.specs.Global.{Global}
use Rattle.std.specs.List.{filter_map, cons_option}
use Rattle.std.proofs.lemmas.List.Elements.{filter_map-append}
use Rattle.std.proofs.lemmas.List.{append_assoc, length-append, length-take-le, take_more}
use Rattle.base.specs.declared.range.Range.{Range}
use Rattle.es_literal.specs.Quotes.{quoted}
use Rattle.es_site.specs.declared.site.Site.{Site}
use Rattle.es_site.specs.declared.site.DependencyKind.{DependencyKind}
use Rattle.es_site.specs.declared.site.DependencyKind.TheVariants as kind
use Rattle.source_text.specs.declared.text_changes.change.TextChange.{TextChange}
use Rattle.source_text.specs.text_changes.Changes.{changed}
use Rattle.graph_entry.specs.declared.entry.Dependency.{Dependency}
use Rattle.graph_entry.specs.declared.entry.JsModule.{JsModule}
use Rattle.graph_entry.specs.Resolution.{Resolved}
use Rattle.specifier_edits.specs.Sites.{AreSites, is_reference}
use Rattle.specifier_edits.specs.Edits.{NamesLiterals, range_of, edit, edits}
use Rattle.graph_vendor.specs.Names.{Entries, Names}
use Rattle.graph_vendor.specs.Refused.{kind_cause, edge_cause, edges_cause, IsSite, AreOfSites}
use Rattle.graph_vendor.specs.Plan.{literal_to, range_or, edit_of, site_of}
use Rattle.graph_vendor.specs.Files.{CanBeNamed, AreLiterals}

-- ---- edges without a cause are literals

or_none : {A : Type 0} (a b : Option A) → option_or a b ≡ None → (a ≡ None) × (b ≡ None)
or_none None b e = (refl, e)
or_none (Some x) b e = absurd (let bad : ⊥ = cc in bad)

no_reference : (k : DependencyKind) → kind_cause k ≡ None → is_reference k ≡ false
no_reference kind.Import e = refl
no_reference kind.ImportSource e = refl
no_reference kind.ImportDefer e = refl
no_reference kind.Export e = refl
no_reference kind.ImportEquals e = refl
no_reference kind.Dynamic e = refl
no_reference kind.DynamicSource e = refl
no_reference kind.DynamicDefer e = refl
no_reference kind.ReferencePath e = absurd (let bad : ⊥ = cc in bad)
no_reference kind.ReferenceTypes e = absurd (let bad : ⊥ = cc in bad)
no_reference kind.Wasm e = refl
no_reference kind.Referrer e = refl
no_reference kind.Require e = refl
no_reference kind.RequireResolve e = refl
no_reference kind.TypeImport e = refl
no_reference kind.Worker e = refl
no_reference kind.Address e = refl

is_literal : (r : Resolved) (k : DependencyKind) → edge_cause r k ≡ None → is_reference k ≡ false
is_literal (Ok url) k e = no_reference k e
is_literal (Err fault) k e = absurd (let bad : ⊥ = cc in bad)

-- ---- one site of many

in_middle : {A : Type 0} (xs : List A) (x : A) (ys : List A) → slice_get (xs ++ x ∷ ys) (length xs) ≡ Some x
in_middle [] x ys = refl
in_middle (y ∷ xs) x ys = in_middle xs x ys

at_number : (pre : List Site) (site : Site) (sites : List Site) (n : ℕ) → n ≡ length pre
    → slice_get (pre ++ site ∷ sites) n ≡ Some site
at_number pre site sites n e = ap (slice_get (pre ++ site ∷ sites)) e ∙ in_middle pre site sites

longer : (pre : List Site) (site : Site) (n : ℕ) → n ≡ length pre → length (pre ++ site ∷ []) ≡ n + 1
longer pre site n e = length-append pre (site ∷ []) ∙ ap (λ (k : ℕ). k + 1) (sym e)

further : (pre : List Site) (site : Site) (sites : List Site) → (pre ++ site ∷ []) ++ sites ≡ pre ++ site ∷ sites
further pre site sites = append_assoc pre (site ∷ []) sites

-- ---- all of them

pub names_all : (entries : Entries) (names : Names) (pre : List Site) (ds : List Dependency) (sites : List Site)
    (k : ℕ) (changes : List (ℕ × String Global)) → k ≡ length pre → AreOfSites ds sites
    → AreLiterals entries names k ds changes → edges_cause ds ≡ None → NamesLiterals (pre ++ sites) k changes
names_all entries names pre [] [] k [] e same are free = tt
names_all entries names pre [] [] k (c ∷ cs) e same are free = absurd are
names_all entries names pre [] (site ∷ sites) k cs e same are free = absurd same
names_all entries names pre (d ∷ ds) [] k cs e same are free = absurd same
names_all entries names pre (d ∷ ds) (site ∷ sites) k [] e same are free = absurd are
names_all entries names pre (d ∷ ds) (site ∷ sites) k (c ∷ cs) e same are free =
    let both = or_none (edge_cause d.resolution d.kind) (edges_cause ds) free in
    let literal : is_reference site.kind ≡ false =
    ap is_reference (sym same.0.kind) ∙ is_literal d.resolution d.kind both.0 in
    let rest = names_all entries names (pre ++ site ∷ []) ds sites (k + 1) cs (sym (longer pre site k e)) same.1 are.2
    both.1 in
    let P : List Site → Type 0 = λ ss. NamesLiterals ss (k + 1) cs in
    let Q : ℕ → Type 0 = λ n. NamesLiterals (pre ++ site ∷ sites) (n + 1) cs in (
      site,
      at_number pre site sites c.0 (are.0 ∙ e),
      literal,
      omega (arith, are.0),
      subst Q (sym are.0) (subst P (further pre site sites) rest),
    )

one_edit : (entries : Entries) (names : Names) (d : Dependency) (site : Site) (sites : List Site) (n : ℕ)
    (text : List ℕ) → IsSite d site → slice_get sites n ≡ Some site → text ≡ literal_to entries names d.resolution
    → edit sites n text ≡ edit_of entries names d
one_edit entries names d site sites n text is at same =
    let range : range_of (slice_get sites n) ≡ range_or d.range = ap range_of at ∙ sym (ap range_or is.range) in
    let new = λ (t : List ℕ). encode_utf8_all (quoted (chars t)) in
    let by_range : Range → TextChange = λ r. record { range = r; new_text = new text } in
    let by_text : List ℕ → TextChange = λ t. record { range = range_or d.range; new_text = new t } in
    ap by_range range ∙ ap by_text same

pub edits_same : (entries : Entries) (names : Names) (pre : List Site) (ds : List Dependency) (sites : List Site)
    (k : ℕ) (changes : List (ℕ × String Global)) → k ≡ length pre → AreOfSites ds sites
    → AreLiterals entries names k ds changes → edits (pre ++ sites) changes ≡ map (edit_of entries names) ds
edits_same entries names pre [] [] k [] e same are = refl
edits_same entries names pre [] [] k (c ∷ cs) e same are = absurd are
edits_same entries names pre [] (site ∷ sites) k cs e same are = absurd same
edits_same entries names pre (d ∷ ds) [] k cs e same are = absurd same
edits_same entries names pre (d ∷ ds) (site ∷ sites) k [] e same are = absurd are
edits_same entries names pre (d ∷ ds) (site ∷ sites) k (c ∷ cs) e same are =
    let rest = edits_same entries names (pre ++ site ∷ []) ds sites (k + 1) cs (sym (longer pre site k e)) same.1
    are.2 in
    let here = one_edit entries names d site (pre ++ site ∷ sites) c.0 (string_bytes c.1) same.0
    (at_number pre site sites c.0 (are.0 ∙ e)) are.1 in
    let behind : edits (pre ++ site ∷ sites) cs ≡ map (edit_of entries names) ds =
    ap (λ (ss : List Site). edits ss cs) (sym (further pre site sites)) ∙ rest in
    ap (λ (x : TextChange). x ∷ edits (pre ++ site ∷ sites) cs) here
    ∙ ap (λ (xs : List TextChange). edit_of entries names d ∷ xs) behind

-- ---- one more

same_some : {A : Type 0} (x y : A) → Some x ≡ Some y → x ≡ y
same_some x y h = cc

site_same : (d : Dependency) (site : Site) (range : Range) → IsSite d site → d.range ≡ Some range
    → site_of d range ≡ site
site_same d site range is at =
    let same : range ≡ site.range = same_some range site.range (sym at ∙ is.range) in
    rw is.kind rw is.type_only rw is.text rw is.attribute rw same refl

-- the sites of edges and one more, apart
pub sites_split : (ds : List Dependency) (d : Dependency) (others : List Site) → AreOfSites (ds ++ d ∷ []) others
    → (front : List Site) × (last : Site) × AreOfSites ds front × IsSite d last × (others ≡ front ++ last ∷ [])
sites_split [] d [] h = absurd h
sites_split [] d (site ∷ []) h = ([], site, tt, h.0, refl)
sites_split [] d (site ∷ other ∷ more) h = absurd h.1
sites_split (x ∷ ds) d [] h = absurd h
sites_split (x ∷ ds) d (site ∷ others) h =
    let rest = sites_split ds d others h.1 in
    (site ∷ rest.0, rest.1, (h.0, rest.2), rest.3, ap (λ (ss : List Site). site ∷ ss) rest.4)

literals_push : (entries : Entries) (names : Names) (k n : ℕ) (ds : List Dependency) (d : Dependency)
    (changes : List (ℕ × String Global)) (change : ℕ × String Global) → n ≡ k + length ds
    → AreLiterals entries names k ds changes
    → change.0 ≡ n → string_bytes change.1 ≡ literal_to entries names d.resolution
    → AreLiterals entries names k (ds ++ d ∷ []) (changes ++ change ∷ [])
literals_push entries names k n [] d [] change e are at text = (omega (arith, e, at), text, tt)
literals_push entries names k n [] d (c ∷ cs) change e are at text = absurd are
literals_push entries names k n (x ∷ ds) d [] change e are at text = absurd are
literals_push entries names k n (x ∷ ds) d (c ∷ cs) change e are at text =
    (are.0, are.1, literals_push entries names (k + 1) n ds d cs change (omega (arith, e)) are.2 at text)

pub literals_more : (entries : Entries) (names : Names) (ds : List Dependency) (n : ℕ) (d other : Dependency)
    (changes new : List (ℕ × String Global)) (change : ℕ × String Global) → n < length ds → d ≡ get_or ds n other
    → AreLiterals entries names 0 (take n ds) changes → change.0 ≡ n
    → string_bytes change.1 ≡ literal_to entries names d.resolution → new ≡ changes ++ change ∷ []
    → AreLiterals entries names 0 (take (n + 1) ds) new
literals_more entries names ds n d other changes new change inside here are at text grown =
    let front : take (n + 1) ds ≡ take n ds ++ d ∷ [] =
    take_more ds n other inside ∙ ap (λ (x : Dependency). take n ds ++ x ∷ []) (sym here) in
    let le : n ≤ length ds = omega (arith, inside) in
    let taken = length-take-le n ds le in
    let long : n ≡ 0 + length (take n ds) = omega (arith, taken) in
    let P : List Dependency → Type 0 = λ xs. AreLiterals entries names 0 xs new in
    let Q : List (ℕ × String Global) → Type 0 = λ cs. AreLiterals entries names 0 (take n ds ++ d ∷ []) cs in
    subst P (sym front) (subst Q (sym grown)
    (literals_push entries names 0 n (take n ds) d changes change long are at text))

abbrev AreFor : List Dependency → List Site → Type 0
AreFor ds sites = (others : List Site) → AreOfSites ds others → sites ≡ others

take_split : (ds : List Dependency) (n : ℕ) (d other : Dependency) (others : List Site) → n < length ds
    → d ≡ get_or ds n other → AreOfSites (take (n + 1) ds) others
    → (front : List Site) × (last : Site) × AreOfSites (take n ds) front × IsSite d last × (others ≡ front ++ last ∷ [])
take_split ds n d other others inside here h =
    let front : take (n + 1) ds ≡ take n ds ++ d ∷ [] =
    take_more ds n other inside ∙ ap (λ (x : Dependency). take n ds ++ x ∷ []) (sym here) in
    sites_split (take n ds) d others (subst (λ (xs : List Dependency). AreOfSites xs others) front h)

-- one more edge has its site
pub sites_more : (ds : List Dependency) (n : ℕ) (d other : Dependency) (sites new : List Site) (site : Site)
    (range : Range) → n < length ds → d ≡ get_or ds n other → AreFor (take n ds) sites → d.range ≡ Some range
    → site ≡ site_of d range → new ≡ sites ++ site ∷ [] → AreFor (take (n + 1) ds) new
sites_more ds n d other sites new site range inside here are at same grown others h =
    let is = take_split ds n d other others inside here h in
    let last : site ≡ is.1 = same ∙ site_same d is.1 range is.3 at in
    grown ∙ ap (λ (ss : List Site). ss ++ site ∷ []) (are is.0 is.2)
    ∙ ap (λ (s : Site). is.0 ++ s ∷ []) last ∙ sym is.4

-- an edge that stands in no text is no site's
pub sites_not : (ds : List Dependency) (n : ℕ) (d other : Dependency) (sites : List Site) → n < length ds
    → d ≡ get_or ds n other → d.range ≡ None → AreFor (take (n + 1) ds) sites
sites_not ds n d other sites inside here none others h =
    let is = take_split ds n d other others inside here h in
    let range = is.3.range in absurd (let bad : ⊥ = cc in bad)

-- ---- the whole source

made_same : (m : JsModule) (named : CanBeNamed m) (ds : List Dependency) (made sites : List Site)
    → ds ≡ m.dependencies → AreFor ds made → sites ≡ made → sites ≡ named.sites
made_same m named ds made sites e are same =
    same ∙ are named.sites (subst (λ (xs : List Dependency). AreOfSites xs named.sites) (sym e) named.same)

pub text_sites : (m : JsModule) (text : List ℕ) (ds : List Dependency) (made sites : List Site) → CanBeNamed m
    → text ≡ m.text → ds ≡ m.dependencies → AreFor ds made → sites ≡ made → AreSites text sites
text_sites m text ds made sites named t e are same =
    subst (λ (x : List ℕ). AreSites x sites) (sym t)
    (subst (AreSites m.text) (sym (made_same m named ds made sites e are same)) named.of_text)

literals_of : (entries : Entries) (names : Names) (m : JsModule) (ds : List Dependency)
    (all changes : List (ℕ × String Global)) → ds ≡ m.dependencies → changes ≡ all
    → AreLiterals entries names 0 ds all → AreLiterals entries names 0 m.dependencies changes
literals_of entries names m ds all changes e same are =
    let P : List Dependency → Type 0 = λ xs. AreLiterals entries names 0 xs changes in
    let Q : List (ℕ × String Global) → Type 0 = λ cs. AreLiterals entries names 0 ds cs in
    subst P e (subst Q (sym same) are)

pub text_names : (entries : Entries) (names : Names) (m : JsModule) (ds others : List Dependency)
    (made sites : List Site) (all changes : List (ℕ × String Global)) → CanBeNamed m → ds ≡ m.dependencies
    → AreFor ds made → sites ≡ made → others ≡ m.dependencies → changes ≡ all
    → AreLiterals entries names 0 others all → NamesLiterals sites 0 changes
text_names entries names m ds others made sites all changes named e are same f grown literals =
    subst (λ (ss : List Site). NamesLiterals ss 0 changes) (sym (made_same m named ds made sites e are same))
    (names_all entries names [] m.dependencies named.sites 0 changes refl named.same
    (literals_of entries names m others all changes f grown literals) named.free)

pub text_new : (entries : Entries) (names : Names) (m : JsModule) (text : List ℕ) (ds others : List Dependency)
    (made sites : List Site) (all changes : List (ℕ × String Global)) (new : List ℕ) → CanBeNamed m → text ≡ m.text
    → ds ≡ m.dependencies → AreFor ds made → sites ≡ made → others ≡ m.dependencies → changes ≡ all
    → AreLiterals entries names 0 others all → new ≡ changed text 0 (edits sites changes)
    → new ≡ changed m.text 0 (map (edit_of entries names) m.dependencies)
text_new entries names m text ds others made sites all changes new named t e are same f grown literals is =
    let these : edits sites changes ≡ map (edit_of entries names) m.dependencies =
    ap (λ (ss : List Site). edits ss changes) (made_same m named ds made sites e are same)
    ∙ edits_same entries names [] m.dependencies named.sites 0 changes refl named.same
    (literals_of entries names m others all changes f grown literals) in
    is ∙ ap (λ (x : List ℕ). changed x 0 (edits sites changes)) t ∙ ap (changed m.text 0) these

-- ---- what a function gives of one more

pub filter_next : {A B : Type 0} (f : A → Option B) (xs : List A) (n : ℕ) (x other : A) → n < length xs
    → x ≡ get_or xs n other
    → filter_map f (take (n + 1) xs) ≡ filter_map f (take n xs) ++ cons_option (f x) []
filter_next {A} {B} f xs n x other inside here =
    let front : take (n + 1) xs ≡ take n xs ++ x ∷ [] =
    take_more xs n other inside ∙ ap (λ (y : A). take n xs ++ y ∷ []) (sym here) in
    ap (filter_map f) front ∙ filter_map-append f (take n xs) (x ∷ [])
