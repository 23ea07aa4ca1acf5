-- What can't be vendored among the entries that are left, and what it means that nothing is among them.
use Rattle.std.proofs.Common.{◌≡◌, ◌∙◌, refl, sym, ap, subst, ℕ, suc, ◌+◌, ◌<◌, Bool, true, false, List, [], ◌∷◌, length, drop, get_or, slice_get, Some, None, Ok, inl, inr}
use Rattle.std.specs.Prelude.{codes}
use Rattle.std.proofs.lemmas.List.{drop_more}
use Rattle.std.proofs.lemmas.Option.{same_Some}
use Rattle.url.specs.Parts.{Parts}
use Rattle.es_site.specs.declared.site.Site.{Site}
use Rattle.media_type.specs.declared.media_type.MediaType.{MediaType}
use Rattle.source_reading.specs.Read.{HasSites}
use Rattle.graph_entry.specs.declared.entry.Dependency.{Dependency}
use Rattle.graph_entry.specs.declared.entry.JsModule.{JsModule}
use Rattle.graph_entry.specs.declared.entry.Module.TheVariants.{Js, Json, Wasm}
use Rattle.graph_entry.specs.declared.entry.Entry.{Entry}
use Rattle.graph_entry.specs.declared.entry.Entry.TheVariants as entry
use Rattle.graph_entry.specs.Specifier.{text_of}
use Rattle.graph_entry.specs.Resolution.{has_scheme}
use Rattle.graph_entry.specs.Reading.{Reading}
use Rattle.graph_builder.specs.Reach.{Specifier}
use Rattle.graph_builder.specs.Graph.{GraphData}
use Rattle.specifier_edits.proofs.Theorems.{source_sites}
use Rattle.graph_vendor.specs.declared.plan.VendorCause.{VendorCause}
use Rattle.graph_vendor.specs.declared.plan.VendorCause.TheVariants.{ReferrerImport}
use Rattle.graph_vendor.specs.Names.{Entries, Names}
use Rattle.graph_vendor.specs.Refused.{IsSite, AreOfSites, OfSource, own, other, HasCause, Told, IsFirstRefused}
use Rattle.graph_vendor.specs.Plan.{IsRefusal, referrer}
use Rattle.graph_vendor.specs.Files.{CanBeNamed, IsOwnEntry, AreOwn}

-- ---- what comes first

pub refused_here : (reads : Reading) (left rest : Entries) (url : Parts) (e : Entry) (cause : VendorCause)
    → left ≡ (url, e) ∷ rest → HasCause reads (has_scheme (codes "data") url) (text_of url) e (Some cause)
    → IsFirstRefused reads left (Some (cause, url))
refused_here reads left rest url e cause steps has =
    subst (λ (es : Entries). IsFirstRefused reads es (Some (cause, url))) (sym steps) (inl (cause, has, refl))

pub refused_later : (reads : Reading) (left rest : Entries) (url : Parts) (e : Entry) (found : Told)
    → left ≡ (url, e) ∷ rest → HasCause reads (has_scheme (codes "data") url) (text_of url) e None
    → IsFirstRefused reads rest found → IsFirstRefused reads left found
refused_later reads left rest url e found steps has later =
    subst (λ (es : Entries). IsFirstRefused reads es found) (sym steps) (inr (has, later))

pub refused_none : (reads : Reading) (left : Entries) → left ≡ [] → IsFirstRefused reads left None
refused_none reads left e = subst (λ (es : Entries). IsFirstRefused reads es None) (sym e) refl

-- ---- nothing is refused

abbrev AsParser : Reading → Type 0
AsParser reads =
    (s : List ℕ) (media : MediaType) (text : List ℕ) (sites : List Site) → reads s media text (Ok sites)
    → HasSites media text sites

of_source : (reads : Reading) (s : Specifier) (m : JsModule) → AsParser reads → OfSource reads s m None → CanBeNamed m
of_source reads s m parser (own is e) = record {
  sites = is.sites;
  of_text = source_sites m.media_type m.text is.sites (parser s m.media_type m.text is.sites is.read);
  same = is.same;
  free = sym e;
}
of_source reads s m parser (other isnt e) = absurd (let bad : ⊥ = cc in bad)

of_entry : (reads : Reading) (data_url : Bool) (s : Specifier) (e : Entry) → AsParser reads
    → HasCause reads data_url s e None → IsOwnEntry e
of_entry reads true s e parser has = absurd (let bad : ⊥ = cc in bad)
of_entry reads false s (entry.Module (Js m)) parser has = of_source reads s m parser has
of_entry reads false s (entry.Module (Json m)) parser has = tt
of_entry reads false s (entry.Module (Wasm m)) parser has = tt
of_entry reads false s (entry.Redirect target) parser has = tt
of_entry reads false s (entry.Package held) parser has = tt
of_entry reads false s entry.External parser has = tt
of_entry reads false s (entry.Error fault) parser has = tt

pub passes_own : (reads : Reading) (entries : Entries) → AsParser reads → IsFirstRefused reads entries None
    → AreOwn entries
passes_own reads [] parser h = tt
passes_own reads (e ∷ es) parser (inl (cause, has, told)) = absurd (let bad : ⊥ = cc in bad)
passes_own reads (e ∷ es) parser (inr (has, later)) =
    (of_entry reads (has_scheme (codes "data") e.0) (text_of e.0) e.1 parser has, passes_own reads es parser later)

-- ---- places outside

pub is_referrer : (reads : Reading) (graph : GraphData) (names : Names) (places : List (Parts × List Dependency))
    (first : Parts × List Dependency) (s : Parts) → places ≡ graph.imports → Some first ≡ slice_get places 0
    → s ≡ first.0 → IsRefusal reads graph names ReferrerImport s
is_referrer reads graph names [] first s e at same = absurd (let bad : ⊥ = cc in bad)
is_referrer reads graph names (place ∷ rest) first s e at same =
    let here : first ≡ place = same_Some first place at in
    let there : s ≡ place.0 = same ∙ ap (λ (p : Parts × List Dependency). p.0) here in
    subst (λ (u : Parts). IsRefusal reads graph names ReferrerImport u) (sym there)
    (referrer rest place.1 refl (sym e))

-- ---- edges and sites, one at a time

record IsNext (ds : List Dependency) (sites : List Site) (d : Dependency) (site : Site) (n : ℕ) : Type 0 where
  pub more : n < length ds
  pub more_sites : n < length sites
  pub edge : d ≡ get_or ds n d
  pub here : site ≡ get_or sites n site

split : (ds : List Dependency) (sites : List Site) (d : Dependency) (site : Site) (n : ℕ) → IsNext ds sites d site n
    → (drop n ds ≡ d ∷ drop (n + 1) ds) × (drop n sites ≡ site ∷ drop (n + 1) sites)
split ds sites d site n is = (
  drop_more ds n d is.more ∙ ap (λ (x : Dependency). x ∷ drop (n + 1) ds) (sym is.edge),
  drop_more sites n site is.more_sites ∙ ap (λ (x : Site). x ∷ drop (n + 1) sites) (sym is.here),
)

-- those from a place on are of these sites if this one is, and the others are
pub of_sites_more : (ds : List Dependency) (sites : List Site) (d : Dependency) (site : Site) (n : ℕ)
    → n < length ds → n < length sites → d ≡ get_or ds n d → site ≡ get_or sites n site → IsSite d site
    → AreOfSites (drop (n + 1) ds) (drop (n + 1) sites) → AreOfSites (drop n ds) (drop n sites)
of_sites_more ds sites d site n more more_sites edge here is rest =
    let both = split ds sites d site n
    (record { more = more; more_sites = more_sites; edge = edge; here = here }) in
    subst (λ (xs : List Dependency). AreOfSites xs (drop n sites)) (sym both.0)
    (subst (λ (ss : List Site). AreOfSites (d ∷ drop (n + 1) ds) ss) (sym both.1) (is, rest))

pub of_sites_back : (ds : List Dependency) (sites : List Site) (d : Dependency) (site : Site) (n : ℕ)
    → n < length ds → n < length sites → d ≡ get_or ds n d → site ≡ get_or sites n site
    → AreOfSites (drop n ds) (drop n sites) → IsSite d site × AreOfSites (drop (n + 1) ds) (drop (n + 1) sites)
of_sites_back ds sites d site n more more_sites edge here h =
    let both = split ds sites d site n
    (record { more = more; more_sites = more_sites; edge = edge; here = here }) in
    subst (λ (ss : List Site). AreOfSites (d ∷ drop (n + 1) ds) ss) both.1
    (subst (λ (xs : List Dependency). AreOfSites xs (drop n sites)) both.0 h)

pub of_sites_length : (ds : List Dependency) (sites : List Site) → AreOfSites ds sites → length ds ≡ length sites
of_sites_length [] [] h = refl
of_sites_length [] (site ∷ sites) h = absurd h
of_sites_length (d ∷ ds) [] h = absurd h
of_sites_length (d ∷ ds) (site ∷ sites) h = ap suc (of_sites_length ds sites h.1)
