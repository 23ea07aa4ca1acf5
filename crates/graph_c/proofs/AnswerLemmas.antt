-- Records of sites whose values stand one behind the other.
use Rattle.std.proofs.Common.{◌≡◌, ◌∙◌, refl, sym, ap, ℕ, ◌+◌, ◌<◌, Bool, true, false, ◌&&◌, nat_le, List, [], ◌∷◌, ◌++◌, length, take, drop, get_or, arith, length-append, append-nil}
use Rattle.std.proofs.lemmas.List.{take_more}
use Rattle.std.proofs.lemmas.Grind.{flat_map-append}
use Rattle.es_site.specs.declared.site.Site.{Site}
use Rattle.graph_c.specs.declared.answer.SourceSite.{SourceSite}
use Rattle.graph_c.specs.declared.finding.Finding.{Finding}
use Rattle.graph_c.specs.Answer.{record_of, records_from, texts_of, values_of, found_in, fits, TellsFinding}
use Rattle.graph_c.specs.Told.{fault_of, place_of, status_of, after}

-- one more site
records_from_push : (at to : ℕ) (sites : List Site) (site : Site) → to ≡ at + length (values_of sites)
    → records_from at (sites ++ site ∷ [])
    ≡ records_from at sites ++ record_of site to (to + length site.value) (to + length (texts_of site)) ∷ []
records_from_push at to [] site is =
    let same : at ≡ to = omega (arith, is) in
    rw same refl
records_from_push at to (first ∷ sites) site is =
    let next : to ≡ (at + length (texts_of first)) + length (values_of sites)
    = omega (arith, is, length-append (texts_of first) (values_of sites)) in
    ap (λ rest. record_of first at (at + length first.value) (at + length (texts_of first)) ∷ rest)
    (records_from_push (at + length (texts_of first)) to sites site next)

values_of_push : (sites : List Site) (site : Site)
    → values_of (sites ++ site ∷ []) ≡ values_of sites ++ texts_of site
values_of_push sites site =
    flat_map-append (λ (s : Site). texts_of s) sites (site ∷ [])
    ∙ ap (λ (end : List ℕ). values_of sites ++ end) (append-nil (texts_of site))

-- the sites up to the next place
next_sites : (found : List Site) (i : ℕ) (site : Site) → i < length found → site ≡ get_or found i site
    → take (i + 1) found ≡ take i found ++ site ∷ []
next_sites found i site inside here =
    take_more found i site inside ∙ ap (λ (s : Site). take i found ++ s ∷ []) (sym here)

-- one more site was laid out: its texts behind the others, and its record
pub values_more : (found : List Site) (i : ℕ) (site : Site) (values new : List ℕ)
    → i < length found → site ≡ get_or found i site → values ≡ values_of (take i found)
    → new ≡ values ++ texts_of site → new ≡ values_of (take (i + 1) found)
values_more found i site values new inside here are grown =
    grown ∙ ap (λ (v : List ℕ). v ++ texts_of site) are
    ∙ sym (values_of_push (take i found) site) ∙ sym (ap values_of (next_sites found i site inside here))

pub length_more : (found : List Site) (i : ℕ) (site : Site) (n new : ℕ)
    → i < length found → site ≡ get_or found i site → n ≡ length (values_of (take i found))
    → new ≡ n + length (texts_of site) → new ≡ length (values_of (take (i + 1) found))
length_more found i site n new inside here count grown =
    let whole : length (values_of (take (i + 1) found)) ≡ length (values_of (take i found)) + length (texts_of site)
    = ap length (ap values_of (next_sites found i site inside here) ∙ values_of_push (take i found) site)
    ∙ length-append (values_of (take i found)) (texts_of site) in
    omega (arith, whole, grown, count)

pub records_more : (found : List Site) (i : ℕ) (site : Site) (sites new : List SourceSite) (made : SourceSite)
    (start between end : ℕ)
    → i < length found → site ≡ get_or found i site → sites ≡ records_from 0 (take i found)
    → start ≡ length (values_of (take i found)) → between ≡ start + length site.value
    → end ≡ start + length (texts_of site)
    → made ≡ record_of site start between end → new ≡ sites ++ made ∷ []
    → new ≡ records_from 0 (take (i + 1) found)
records_more found i site sites new made start between end inside here are starts turns ends is grown =
    grown ∙ ap (λ (s : List SourceSite). s ++ made ∷ []) are
    ∙ ap (λ (r : SourceSite). records_from 0 (take i found) ++ r ∷ [])
    (is ∙ ap (λ (b : ℕ). record_of site start b end) turns
    ∙ ap (record_of site start (start + length site.value)) ends)
    ∙ sym (records_from_push 0 start (take i found) site (omega (arith, starts)))
    ∙ sym (ap (records_from 0) (next_sites found i site inside here))

-- ---- what is told

-- the room behind a call that put the items, or that didn't
pub put_after : {A : Type 0} (fit : Bool) (items room new : List A) → fit ≡ true
    → new ≡ items ++ drop (length items) room
    → new ≡ after fit items room
put_after fit items room new fits_in is = rw fits_in is

pub kept_after : {A : Type 0} (fit : Bool) (items room new : List A) → fit ≡ false → new ≡ room
    → new ≡ after fit items room
kept_after fit items room new fails is = rw fails is

-- from what was laid out
pub tells_laid : (finding : Finding) (found : List Site) (laid_sites sites new_sites : List SourceSite)
    (laid_values values new_values : List ℕ) (count bytes fault place status : ℕ) (fit : Bool)
    → found ≡ found_in finding → laid_sites ≡ records_from 0 found → laid_values ≡ values_of found
    → count ≡ length found → bytes ≡ length (values_of found)
    → fit ≡ (nat_le count (length sites) && nat_le bytes (length values))
    → fault ≡ fault_of finding → place ≡ place_of finding → status ≡ status_of fit finding
    → new_sites ≡ after fit laid_sites sites → new_values ≡ after fit laid_values values
    → TellsFinding finding sites new_sites values new_values
    (record { sites = count; value_bytes = bytes; fault = fault; place = place }) status
tells_laid finding found laid_sites sites new_sites laid_values values new_values count bytes fault place status fit
    found_is sites_laid values_laid counted filled fit_is fault_is place_is status_is new_sites_is new_values_is =
    let whole : fit ≡ fits (found_in finding) sites values = fit_is ∙ rw (counted, filled, found_is) refl in
    record {
      counts = rw (counted, filled, fault_is, place_is, found_is) refl;
      records = new_sites_is ∙ rw (whole, sites_laid, found_is) refl;
      texts = new_values_is ∙ rw (whole, values_laid, found_is) refl;
      ends = status_is ∙ rw whole refl;
    }
