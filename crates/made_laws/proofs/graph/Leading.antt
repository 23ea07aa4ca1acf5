-- Where a module of a bundle made by number leads.
use Rattle.std.proofs.Common.{◌≡◌, ◌∙◌, refl, sym, ap, subst, ℕ, ◌<◌, ◌^◌, ◌==◌, Bool, true, false, ◌||◌, List, [], ◌∷◌, length, take, drop, Option, Result, Ok, Err, Some, None, arith}
use Rattle.std.specs.Prelude.{All, bytes_eq, nat_lt, map, if◌then◌else◌, MatchOption}
use Rattle.std.specs.List.{filter_map, cons_option}
use Rattle.std.specs.Option.{option_map}
use Rattle.std.specs.Result.{result_ok}
use Rattle.std.proofs.lemmas.Bool.{ne_eqb}
use Rattle.std.proofs.lemmas.List.Elements.{All-head, All-tail}
use Rattle.std.proofs.lemmas.Slice.Eq.{bytes_eq-Decides}
use Rattle.es_site.specs.declared.site.Site.{Site}
use Rattle.media_type.specs.declared.media_type.MediaType.{MediaType}
use Rattle.media_type.specs.declared.media_type.ModuleKind.{ModuleKind}
use Rattle.media_type.specs.declared.media_type.ModuleKind.TheVariants as module_kind
use Rattle.media_type.specs.MediaType.{kind_of}
use Rattle.source_text.specs.module_text.ModuleText.{without_mark}
use Rattle.file_url.specs.Imports.{import_of}
use Rattle.wasm_dep_analyzer.specs.Module.{header_at, version_at}
use Rattle.wasm_dep_analyzer.specs.declared.error.ParseError.{ParseError}
use Rattle.wasm_dep_analyzer.specs.declared.error.ParseError.TheVariants.{NotWasm}
use Rattle.graph_entry.specs.declared.entry.Dependency.{Dependency}
use Rattle.graph_entry.specs.declared.entry.Entry.{Entry}
use Rattle.graph_entry.specs.Specifier.{text_of}
use Rattle.graph_entry.specs.Entry.{edge_target}
use Rattle.graph_entry.specs.Resolution.{resolve_by, resolve, of_any_kind}
use Rattle.graph_entry.specs.Reading.{ReadsSource, with_sites, no_program}
use Rattle.graph_entry.specs.Json.{with_json, no_json}
use Rattle.graph_entry.specs.Wasm.{with_imports, faulty}
use Rattle.graph_entry.specs.Ways.{default_ways}
use Rattle.graph_entry.specs.Analysed.{unsupported, dependency_of, source_entry, OfText, with_text, no_text, OfKind, OfContent, AnalysedBy}
use Rattle.graph_builder.specs.declared.following.Following.{Following}
use Rattle.graph_builder.specs.Rules.{Rules, rules_by, targets, led_to}
use Rattle.graph_builder.specs.Reach.{Specifier, has}
use Rattle.made_bundle.specs.Made.{module_text}
use Rattle.made_laws.specs.Value.{specifier_text}
use Rattle.made_laws.specs.Urls.{url_at}
use Rattle.made_laws.proofs.Theorems.{import_text, import_read, import_unread, specifier_read, IsClean, clean_module, Imports}
use Rattle.made_laws.proofs.Scan.{Each}
use Rattle.made_laws.proofs.graph.Sites.{module_sites}
use Rattle.made_laws.proofs.graph.Said.{text_at}

-- the specifier of one of the first so many modules
pub record Numbered (count : ℕ) (s : Specifier) : Type 0 where
  pub number : ℕ
  pub below : number < count
  pub is : s ≡ specifier_text number

-- ---- an import

unread_import : (i j : ℕ) → i < 2 ^ 62 → j < 2 ^ 62 → import_of (Ok (url_at i)) (import_text j) ≡ Ok (url_at j)
unfolding import_of
unread_import i j li lj =
    rw (import_unread j (omega (arith, lj))) (rw (import_read i j (omega (arith, li)) (omega (arith, lj))) refl)

resolved : (i j : ℕ) → i < 2 ^ 62 → j < 2 ^ 62 → resolve (specifier_text i) (import_text j) ≡ Ok (url_at j)
unfolding resolve_by
resolved i j li lj = rw (specifier_read i None (omega (arith, li))) (rw (unread_import i j li lj) refl)

-- ---- the edges of a source

module _ (count i : ℕ) (below : i < count) (few : count < 2 ^ 62) (follows : Dependency → Bool) where
  leads_to : (site : Site) (t : Specifier) → Imports count site.value
      → led_to follows (dependency_of (of_any_kind resolve) (specifier_text i) site) ≡ Some t → Numbered count t
  leads_to site t imports is = by (follows (dependency_of (of_any_kind resolve) (specifier_text i) site)) is
    where
      target : resolve (specifier_text i) site.value ≡ Ok (url_at imports.number)
      target =
          ap (resolve (specifier_text i)) imports.is
          ∙ resolved i imports.number (omega (arith, below, few)) (omega (arith, imports.below, few))

      by : (b : Bool)
          → (if b then edge_target (dependency_of (of_any_kind resolve) (specifier_text i) site) else None) ≡ Some t
          → Numbered count t
      by true e =
          let same : Some (text_of (url_at imports.number)) ≡ Some t
          = sym (ap (λ r. option_map text_of (result_ok r)) target) ∙ e in
          let it : text_of (url_at imports.number) ≡ t = cc in
          record { number = imports.number; below = imports.below; is = sym it ∙ text_at imports.number }
      by false e = absurd cc

  one_edge : (site : Site) (rest : List Specifier) (t : Specifier) → Imports count site.value
      → (has rest t ≡ true → Numbered count t)
      → has (cons_option (led_to follows (dependency_of (of_any_kind resolve) (specifier_text i) site)) rest) t ≡ true
      → Numbered count t
  one_edge site rest t imports on h = by (led_to follows (dependency_of (of_any_kind resolve) (specifier_text i) site)) refl h
    where
      first : (x : Specifier) (b : Bool) → led_to follows (dependency_of (of_any_kind resolve) (specifier_text i) site) ≡ Some x
          → bytes_eq t x ≡ b → (b || has rest t) ≡ true → Numbered count t
      first x true is e k = leads_to site t imports (is ∙ ap Some (sym ((bytes_eq-Decides t x).0 e)))
      first x false is e k = on k

      by : (o : Option Specifier) → led_to follows (dependency_of (of_any_kind resolve) (specifier_text i) site) ≡ o
          → has (cons_option o rest) t ≡ true → Numbered count t
      by None is k = on k
      by (Some x) is k = first x (bytes_eq t x) is refl k

  edges_lead : (sites : List Site) (t : Specifier) → All (λ site. Imports count site.value) sites
      → has (filter_map (led_to follows) (map (dependency_of (of_any_kind resolve) (specifier_text i)) sites)) t ≡ true
      → Numbered count t
  edges_lead [] t all h = absurd cc
  edges_lead (site ∷ sites) t all h =
      one_edge site (filter_map (led_to follows) (map (dependency_of (of_any_kind resolve) (specifier_text i)) sites)) t
      (All-head (λ (s : Site). Imports count s.value) site sites all)
      (edges_lead sites t (All-tail (λ (s : Site). Imports count s.value) site sites all)) h

-- ---- what a module's text makes

no_mark : (text : List ℕ) → Each IsClean text → without_mark text ≡ text
unfolding without_mark
no_mark [] h = refl
no_mark (b ∷ rest) h = rw (ne_eqb 0xEF b (λ e. high b h.0 e)) refl
  where
    high : (b : ℕ) → IsClean b → 0xEF ≡ b → ⊥
    high b c e = let bad : IsClean 0xEF = subst IsClean (sym e) c in let none : ⊥ = cc in none

no_error : (body : List ℕ) → ◌≡◌ {A = Result (List ℕ) ParseError} (Err NotWasm) (Ok body) → ⊥
no_error body e = cc

no_header : (text body : List ℕ) → Each IsClean text → header_at text ≡ Ok body → ⊥
unfolding header_at
no_header [] body h e = no_error body e
no_header (b ∷ rest) body h e = by (nat_lt (length (b ∷ rest)) 4) e
  where
    filled : (b == 0) ≡ false
    filled = ne_eqb b 0 (λ is. let bad : IsClean 0 = subst IsClean is h.0 in let none : ⊥ = cc in none)

    other : (if bytes_eq (take 4 (b ∷ rest)) (0 ∷ 97 ∷ 115 ∷ 109 ∷ []) then version_at (drop 4 (b ∷ rest)) else
        Err NotWasm)
        ≡ Err NotWasm
    other = rw filled refl

    by : (c : Bool)
        → (if c then Err NotWasm
        else if bytes_eq (take 4 (b ∷ rest)) (0 ∷ 97 ∷ 115 ∷ 109 ∷ []) then version_at (drop 4 (b ∷ rest))
        else Err NotWasm) ≡ Ok body
        → ⊥
    by true k = no_error body k
    by false k = no_error body (sym other ∙ k)

module _ (count i : ℕ) (below : i < count) (few : count < 2 ^ 62) (following : Following) (t : Specifier) where
  abbrev rules : Rules
  rules = rules_by (AnalysedBy default_ways) following

  no_target : (made other : Entry) → made ≡ other → has (targets rules other) t ≡ false
      → has (targets rules made) t ≡ true
      → Numbered count t
  no_target made other is none h =
      let bad : false ≡ true = sym none ∙ ap (λ (e : Entry). has (targets rules e) t) (sym is) ∙ h in absurd cc

  text_leads : (media : MediaType) (made : Entry)
      → OfText default_ways (specifier_text i) media (module_text count i) made
      → has (targets rules made) t ≡ true → Numbered count t
  unfolding targets
  text_leads media made of h = by of.read
    where
      by : ReadsSource (specifier_text i) media (module_text count i) of.sites → Numbered count t
      by (with_sites found has_sites is) =
          edges_lead count i below few _ found t (module_sites count i media found below few has_sites)
          (sym (ap (λ (e : Entry). has (targets rules e) t)
          (of.is ∙ ap (source_entry (of_any_kind resolve) (specifier_text i) media (module_text count i)) is)) ∙ h)
      by (no_program kind range fault is) =
          no_target made _ (of.is ∙ ap (source_entry (of_any_kind resolve) (specifier_text i) media (module_text count i)) is) refl h

  kind_leads : (media : MediaType) (kind : ModuleKind) (made : Entry)
      → OfKind default_ways (specifier_text i) media kind (module_text count i) made
      → has (targets rules made) t ≡ true → Numbered count t
  unfolding targets
  kind_leads media module_kind.Source made (with_text utf8 of) h =
      text_leads media made
      (subst (λ (x : List ℕ). OfText default_ways (specifier_text i) media x made)
      (no_mark (module_text count i) (clean_module count i below few)) of) h
  kind_leads media module_kind.Source made (no_text none is) h = no_target made _ is refl h
  kind_leads media module_kind.Json made (with_json utf8 is) h = no_target made _ is refl h
  kind_leads media module_kind.Json made (no_json none is) h = no_target made _ is refl h
  kind_leads media module_kind.Wasm made (with_imports deps reads is) h =
      absurd (no_header (module_text count i) reads.0 (clean_module count i below few) reads.1)
  kind_leads media module_kind.Wasm made (faulty e room reads is) h = no_target made _ is refl h

  pub content_leads : (media : MediaType) (made : Entry)
      → OfContent default_ways (specifier_text i) media (module_text count i) made
      → has (targets rules made) t ≡ true → Numbered count t
  unfolding targets
  content_leads media made of h = by (kind_of media) of
    where
      by : (k : Option ModuleKind)
          → MatchOption k (made ≡ unsupported media)
          (λ read. OfKind default_ways (specifier_text i) media read (module_text count i) made)
          → Numbered count t
      by None is = no_target made _ is refl h
      by (Some kind) of = kind_leads media kind made of h
