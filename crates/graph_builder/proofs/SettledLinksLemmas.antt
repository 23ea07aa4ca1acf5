-- What becomes of entries keeps their links.
use Rattle.std.proofs.Common.{◌≡◌, ℕ, Bool, true, false, List, [], ◌∷◌, map, refl, ap, subst, Option, Some, None}
use Rattle.std.specs.Prelude.{drop, if◌then◌else◌}
use Rattle.url.specs.Parts.{Parts}
use Rattle.graph_entry.specs.declared.entry.Dependency.{Dependency}
use Rattle.graph_entry.specs.declared.entry.Module.{Module}
use Rattle.graph_entry.specs.declared.entry.Module.TheVariants.{Js, Json, Wasm}
use Rattle.graph_entry.specs.declared.entry.Entry.{Entry}
use Rattle.graph_entry.specs.declared.entry.Entry.TheVariants as entry
use Rattle.graph_entry.specs.declared.entry.ModuleError.TheVariants.{TooManyRedirects}
use Rattle.graph_entry.specs.Specifier.{text_of}
use Rattle.graph_entry.specs.Entry.{edge_target}
use Rattle.graph_builder.specs.declared.settle.Unfit.{Unfit}
use Rattle.graph_builder.specs.declared.settle.Unfit.TheVariants.{ForAttribute, ForPhase}
use Rattle.graph_builder.specs.declared.links.Place.{Place}
use Rattle.graph_builder.specs.declared.links.Place.TheVariants as place
use Rattle.graph_builder.specs.declared.links.Links.{Links}
use Rattle.graph_builder.specs.Reach.{Specifier, Rules}
use Rattle.graph_builder.specs.ByText.{keys_at}
use Rattle.graph_builder.specs.Links.{ends_of, IsLink, BeginsWithLinks, IsPlaced, ArePlaced, HaveLinks}
use Rattle.graph_builder.specs.Settling.{leads_on, misfit, settled_edge, settled, finals_of}

-- an edge that is refused leads nowhere
settled_link : (keys : List Specifier) (x : ℕ) (u : Option Unfit) (d : Dependency) → IsLink keys x (edge_target d)
    → IsLink keys x (edge_target (settled_edge u d))
settled_link keys x None d h = h
settled_link keys x (Some ForAttribute) d h = tt
settled_link keys x (Some ForPhase) d h = tt

settled_links : (keys : List Specifier) (xs : List ℕ) (f : Dependency → Option Unfit) (ds : List Dependency)
    → BeginsWithLinks keys xs (map edge_target ds)
    → BeginsWithLinks keys xs (map edge_target (map (λ d. settled_edge (f d) d) ds))
settled_links keys [] f [] h = tt
settled_links keys (x ∷ xs) f [] h = tt
settled_links keys [] f (d ∷ ds) h = absurd h
settled_links keys (x ∷ xs) f (d ∷ ds) h = (settled_link keys x (f d) d h.0, settled_links keys xs f ds h.1)

nothing : (keys : List Specifier) (xs : List ℕ) → BeginsWithLinks keys xs []
nothing keys [] = tt
nothing keys (x ∷ xs) = tt

settled_begins : (rules : Rules) (firsts : List (Parts × Entry)) (keys : List Specifier) (xs : List ℕ) (e : Entry)
    → BeginsWithLinks keys xs (ends_of e) → BeginsWithLinks keys xs (ends_of (settled rules firsts e))
settled_begins rules firsts keys xs (entry.Redirect target) h = by (leads_on firsts (text_of target))
  where
    by : (b : Bool) → BeginsWithLinks keys xs
        (ends_of (if b then entry.Error (TooManyRedirects target) else entry.Redirect target))
    by true = nothing keys xs
    by false = h
settled_begins rules firsts keys xs (entry.Module (Js m)) h =
    settled_links keys xs (misfit rules firsts (Js m)) m.dependencies h
settled_begins rules firsts keys xs (entry.Module (Json m)) h = h
settled_begins rules firsts keys xs (entry.Module (Wasm m)) h =
    settled_links keys xs (misfit rules firsts (Wasm m)) m.dependencies h
settled_begins rules firsts keys xs (entry.Package held) h = h
settled_begins rules firsts keys xs entry.External h = h
settled_begins rules firsts keys xs (entry.Error e) h = h

settled_placed : (rules : Rules) (firsts : List (Parts × Entry)) (keys : List Specifier) (xs : List ℕ) (p : Place)
    (e : Entry)
    → IsPlaced keys xs p e → IsPlaced keys xs p (settled rules firsts e)
settled_placed rules firsts keys xs place.Queued e h = tt
settled_placed rules firsts keys xs place.Asked e h = tt
settled_placed rules firsts keys xs (place.Done start) e h = settled_begins rules firsts keys (drop start xs) e h

all_settled : (rules : Rules) (firsts : List (Parts × Entry)) (keys : List Specifier) (xs : List ℕ) (ps : List Place)
    (es : List (Parts × Entry)) → ArePlaced keys xs ps es
    → ArePlaced keys xs ps (map (λ (e : Parts × Entry). (e.0, settled rules firsts e.1)) es)
all_settled rules firsts keys xs [] [] h = tt
all_settled rules firsts keys xs [] (e ∷ es) h = absurd h
all_settled rules firsts keys xs (p ∷ ps) [] h = absurd h
all_settled rules firsts keys xs (p ∷ ps) (e ∷ es) h =
    (settled_placed rules firsts keys xs p e.1 h.0, all_settled rules firsts keys xs ps es h.1)

same_keys : (f : Entry → Entry) (es : List (Parts × Entry))
    → keys_at es ≡ keys_at (map (λ (e : Parts × Entry). (e.0, f e.1)) es)
same_keys f [] = refl
same_keys f (e ∷ es) = ap (λ (ts : List Specifier). text_of e.0 ∷ ts) (same_keys f es)

pub finals_linked : (rules : Rules) (firsts entries : List (Parts × Entry)) (links : Links)
    → entries ≡ finals_of rules firsts → HaveLinks firsts links → HaveLinks entries links
finals_linked rules firsts entries links is h =
    rw is
    (subst (λ (ks : List Specifier). ArePlaced ks links.numbers.items links.places (finals_of rules firsts))
    (same_keys (settled rules firsts) firsts)
    (all_settled rules firsts (keys_at firsts) links.numbers.items links.places firsts h))
