-- Where nothing is to be judged, first entries are those of the graph.
use Rattle.std.proofs.Common.{◌≡◌, ℕ, Bool, true, false, cond, List, [], ◌∷◌, map, refl, sym, ◌∙◌, ap, ap₂, Option, Some, None}
use Rattle.std.specs.Prelude.{not, ◌&&◌, bytes_eq, option_and_then, Result, Ok, Err, if◌then◌else◌}
use Rattle.std.specs.List.{list_all}
use Rattle.url.specs.Parts.{Parts}
use Rattle.es_site.specs.declared.site.DependencyKind.{DependencyKind}
use Rattle.es_site.specs.declared.site.Attribute.{Attribute}
use Rattle.es_site.specs.declared.site.Attribute.TheVariants.{Absent, Named, Unknown}
use Rattle.graph_entry.specs.Specifier.{text_of}
use Rattle.graph_entry.specs.Resolution.{Resolved}
use Rattle.graph_entry.specs.declared.entry.Dependency.{Dependency}
use Rattle.graph_entry.specs.declared.entry.Module.{Module}
use Rattle.graph_entry.specs.declared.entry.Module.TheVariants.{Js, Json, Wasm}
use Rattle.graph_entry.specs.declared.entry.Entry.{Entry}
use Rattle.graph_entry.specs.declared.entry.Entry.TheVariants as entry
use Rattle.graph_builder.specs.declared.settle.Unfit.{Unfit}
use Rattle.graph_builder.specs.Rules.{edges_of, is_source}
use Rattle.graph_builder.specs.Reach.{Specifier, Rules}
use Rattle.graph_builder.specs.Graph.{entry_of, resolved, module_of, module_at}
use Rattle.graph_builder.specs.Final.{fits_by, fits_phase, with_edges}
use Rattle.graph_builder.specs.Settling.{is_named, asks_nothing, ask_nothing, is_plain, are_plain, unfit, unfit_at, misfit, settled_edge, settled, finals_of}

left : (a b : Bool) → a && b ≡ true → a ≡ true
left true b h = refl
left false b h = absurd cc

right : (a b : Bool) → a && b ≡ true → b ≡ true
right true b h = h
right false b h = absurd cc

off : (b : Bool) → not b ≡ true → b ≡ false
off true h = absurd cc
off false h = refl

-- each entry is plain
entry_plain : (firsts : List (Parts × Entry)) (s : Specifier) (e : Entry) → are_plain firsts ≡ true
    → entry_of firsts s ≡ Some e
    → is_plain e ≡ true
entry_plain [] s e h is = absurd cc
entry_plain (f ∷ firsts) s e h is =
    by (bytes_eq s (text_of f.0)) (left (is_plain f.1) (are_plain firsts) h)
    (λ later. entry_plain firsts s e (right (is_plain f.1) (are_plain firsts) h) later) is
  where
    by : (b : Bool) → is_plain f.1 ≡ true → (entry_of firsts s ≡ Some e → is_plain e ≡ true)
        → cond b (Some f.1) (entry_of firsts s) ≡ Some e → is_plain e ≡ true
    by true here later i = let one : f.1 ≡ e = cc in ap is_plain (sym one) ∙ here
    by false here later i = later i

-- an attribute that names nothing fits a plain module
fits_plain : (b : Bool) (a : Attribute) (m : Module) → is_named a ≡ false → is_plain (entry.Module m) ≡ true
    → fits_by b a m ≡ true
fits_plain true Absent m h p = refl
fits_plain false Absent (Js m) h p = refl
fits_plain false Absent (Json m) h p = absurd cc
fits_plain false Absent (Wasm m) h p = refl
fits_plain b (Named text) m h p = absurd cc
fits_plain true Unknown m h p = refl
fits_plain false Unknown m h p = refl

-- and a phase that takes no source fits all
phase_fits : (k : DependencyKind) (m : Module) → is_source k ≡ false → fits_phase k m ≡ true
phase_fits k (Js m) h = ap not h
phase_fits k (Json m) h = ap not h
phase_fits k (Wasm m) h = refl

module _ (rules : Rules) (firsts : List (Parts × Entry)) (plain : are_plain firsts ≡ true) where
  fits_found : (d : Dependency) (s : Specifier) → is_named d.attribute ≡ false → is_source d.kind ≡ false
      → unfit rules.json_without_attribute d (module_at firsts s) ≡ None
  fits_found d s unnamed sourceless =
      by (entry_of firsts (resolved firsts s)) (λ e is. entry_plain firsts (resolved firsts s) e plain is)
    where
      by : (f : Option Entry) → ((e : Entry) → f ≡ Some e → is_plain e ≡ true)
          → unfit rules.json_without_attribute d (option_and_then module_of f) ≡ None
      by None each = refl
      by (Some (entry.Redirect target)) each = refl
      by (Some (entry.Module m)) each =
          rw (
            fits_plain rules.json_without_attribute d.attribute m unnamed (each (entry.Module m) refl),
            phase_fits d.kind m sourceless,
          ) refl
      by (Some (entry.Package held)) each = refl
      by (Some entry.External) each = refl
      by (Some (entry.Error e)) each = refl

  -- no edge is refused
  no_misfit : (m : Module) (d : Dependency) → asks_nothing d ≡ true → misfit rules firsts m d ≡ None
  no_misfit m d h = by (rules.follows m d) d.resolution
    where
      by : (b : Bool) (r : Resolved) → (if b then unfit_at rules.json_without_attribute firsts d r else None) ≡ None
      by true (Ok target) =
          fits_found d (text_of target)
          (off (is_named d.attribute) (left (not (is_named d.attribute)) (not (is_source d.kind)) h))
          (off (is_source d.kind) (right (not (is_named d.attribute)) (not (is_source d.kind)) h))
      by true (Err e) = refl
      by false r = refl

  edges_stay : (m : Module) (ds : List Dependency) → ask_nothing ds ≡ true
      → map (λ d. settled_edge (misfit rules firsts m d) d) ds ≡ ds
  edges_stay m [] h = refl
  edges_stay m (d ∷ ds) h =
      ap₂ (λ (e : Dependency) (es : List Dependency). e ∷ es)
      (ap (λ (u : Option Unfit). settled_edge u d) (no_misfit m d (left (asks_nothing d) (ask_nothing ds) h)))
      (edges_stay m ds (right (asks_nothing d) (ask_nothing ds) h))

  entry_stays : (e : Entry) → is_plain e ≡ true → settled rules firsts e ≡ e
  entry_stays (entry.Redirect target) h = absurd cc
  entry_stays (entry.Module (Js m)) h =
      ap (λ (ds : List Dependency). entry.Module (with_edges (Js m) ds)) (edges_stay (Js m) m.dependencies h)
  entry_stays (entry.Module (Json m)) h = absurd cc
  entry_stays (entry.Module (Wasm m)) h =
      ap (λ (ds : List Dependency). entry.Module (with_edges (Wasm m) ds)) (edges_stay (Wasm m) m.dependencies h)
  entry_stays (entry.Package held) h = refl
  entry_stays entry.External h = refl
  entry_stays (entry.Error e) h = refl

  all_stay : (es : List (Parts × Entry)) → are_plain es ≡ true → map (λ e. (e.0, settled rules firsts e.1)) es ≡ es
  all_stay [] h = refl
  all_stay (e ∷ es) h =
      ap₂ (λ (f : Parts × Entry) (fs : List (Parts × Entry)). f ∷ fs)
      (ap (λ (s : Entry). (e.0, s)) (entry_stays e.1 (left (is_plain e.1) (are_plain es) h)))
      (all_stay es (right (is_plain e.1) (are_plain es) h))

-- plain entries are those of the graph
pub plain_finals : (rules : Rules) (firsts : List (Parts × Entry)) → are_plain firsts ≡ true
    → firsts ≡ finals_of rules firsts
plain_finals rules firsts plain = sym (all_stay rules firsts plain firsts plain)
