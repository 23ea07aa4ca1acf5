-- The changes of numbered sites take the places of string literals among the tokens.
use Rattle.std.proofs.Common.{◌≡◌, ℕ, zero, suc, ◌+◌, ◌-◌, ◌≤◌, List, [], ◌∷◌, drop, slice_get, Some, sym, ◌∙◌, ap, subst, arith, inl, inr}
use Rattle.std.specs.Prelude.{chars, String, string_bytes}
use Rattle.std.proofs.lemmas.Option.{none-some, same_Some}
use Rattle.base.specs.declared.range.Range.{Range}
use Rattle.es_literal.specs.Strings.{IsString}
use Rattle.es_literal.proofs.QuoteLemmas.{quoted_string}
use Rattle.es_token.specs.declared.token.Token.{Token}
use Rattle.es_token.specs.declared.token.Comment.{Comment}
use Rattle.es_token.specs.declared.token.TokenKind.TheVariants.{Str}
use Rattle.es_lexer.specs.Reads.{Reads}
use Rattle.es_site.specs.declared.site.Site.{Site}
use Rattle.es_law_texts.specs.site_order.Order.{StandOn}
use Rattle.source_text.specs.declared.text_changes.change.TextChange.{TextChange}
use Rattle.es_law_edits.specs.tokens.Moved.{cut, Replaces, Chosen}
use Rattle.es_law_edits.proofs.tokens.Theorems.{reads_only_str}
use Rattle.specifier_edits.specs.Sites.{IsLiteral}
use Rattle.specifier_edits.specs.Edits.{NamesLiterals, range_of, edit, edits}
use Rattle.specifier_edits.proofs.ListLemmas.{get_drop, drop_drop}

-- ---- one site
abbrev On : List Token → ℕ → ℕ → List Site → Site → Type 0
On ts f to sites site =
    (n : ℕ) × (t : Token) × (f ≤ n) × (slice_get ts n ≡ Some t) × (site.range ≡ t.range) × StandOn ts (n + 1) to sites

-- a token of its own for this one, and those behind it stand on later ones
site_on : (ts : List Token) (f to : ℕ) (sites : List Site) (n : ℕ) (site : Site) → StandOn ts f to sites
    → slice_get sites n ≡ Some site → On ts f to (drop (suc n) sites) site
site_on ts f to [] n site h at = absurd (none-some site at)
site_on ts f to (s ∷ sites) zero site h at =
    (h.0, h.1, h.2, h.3, ap (λ (s : Site). s.range) (sym (same_Some s site at)) ∙ h.4, h.5)
site_on ts f to (s ∷ sites) (suc n) site h at =
    let rest = site_on ts (h.0 + 1) to sites n site h.5 at in
    let low : f ≤ h.0 = h.2 in
    let high : h.0 + 1 ≤ rest.0 = rest.2 in
    (rest.0, rest.1, omega (arith, low, high), rest.3, rest.4, rest.5)

-- ---- the changes on their tokens
abbrev pub EditsOn : List Token → ℕ → List TextChange → Type 0
EditsOn ts f [] = Unit {0}
EditsOn ts f (c ∷ cs) =
    (n : ℕ) × (t : Token) × (f ≤ n) × (slice_get ts n ≡ Some t) × Replaces t c × EditsOn ts (n + 1) cs

replaces : (sites : List Site) (number : ℕ) (specifier : List ℕ) (site : Site) (t : Token)
    → slice_get sites number ≡ Some site
    → site.range ≡ t.range → t.kind ≡ Str → Replaces t (edit sites number specifier)
replaces sites number specifier site t at same str =
    let whole : range_of (slice_get sites number) ≡ t.range = ap range_of at ∙ same in
    record {
      literal = str;
      starts = ap (λ (r : Range). r.start) whole;
      ends = ap (λ (r : Range). r.end) whole;
      other = quoted_string (chars specifier);
    }

-- the texts of the literals among the sites are string literals
abbrev pub AreStrings : List ℕ → List Site → Type 0
AreStrings x sites = (n : ℕ) (site : Site) → slice_get sites n ≡ Some site → IsLiteral site
    → IsString (cut x site.range)

pub edits_on : {A : Type 0} (x : List ℕ) (ts : List Token) (cs : List Comment) (sites : List Site) (from f to : ℕ)
    (changes : List (ℕ × String A)) → Reads x ts cs → AreStrings x sites → StandOn ts f to (drop from sites)
    → NamesLiterals sites from changes → EditsOn ts f (edits sites changes)
edits_on x ts cs sites from f to [] r strings stand names = tt
edits_on x ts cs sites from f to (c ∷ more) r strings stand names =
    let site : Site = names.0 in
    let at : slice_get sites c.0 ≡ Some site = names.1 in
    let low : from ≤ c.0 = names.3 in
    let place : c.0 ≡ from + (c.0 - from) = omega (arith, low) in
    let behind : c.0 + 1 ≡ from + suc (c.0 - from) = omega (arith, low) in
    let on = site_on ts f to (drop from sites) (c.0 - from) site stand
    (get_drop from sites (c.0 - from) c.0 place ∙ at) in
    let same : site.range ≡ on.1.range = on.4 in
    let string : IsString (cut x on.1.range) =
    subst (λ (q : Range). IsString (cut x q)) same (strings c.0 site at names.2) in
    let str : on.1.kind ≡ Str = reads_only_str x ts cs on.0 on.1 r on.3 string in
    let rest : StandOn ts (on.0 + 1) to (drop (c.0 + 1) sites) =
    subst (λ (ss : List Site). StandOn ts (on.0 + 1) to ss) (drop_drop from sites (suc (c.0 - from)) (c.0 + 1) behind)
    on.5 in (
      on.0,
      on.1,
      on.2,
      on.3,
      replaces sites c.0 (string_bytes c.1) site on.1 at same str,
      edits_on x ts cs sites (c.0 + 1) (on.0 + 1) to more r strings rest names.4,
    )

-- ---- so they are chosen among them
chosen_at : (ts : List Token) (n : ℕ) (t : Token) (c : TextChange) (cs : List TextChange) → slice_get ts n ≡ Some t
    → Replaces t c → Chosen (drop (suc n) ts) cs → Chosen ts (c ∷ cs)
chosen_at [] n t c cs at r h = absurd (none-some t at)
chosen_at (u ∷ ts) zero t c cs at r h = inl (subst (λ (v : Token). Replaces v c) (sym (same_Some u t at)) r, h)
chosen_at (u ∷ ts) (suc n) t c cs at r h = inr (chosen_at ts n t c cs at r h)

pub on_chosen : (ts : List Token) (f : ℕ) (cs : List TextChange) → EditsOn ts f cs → Chosen (drop f ts) cs
on_chosen ts f [] h = tt
on_chosen ts f (c ∷ cs) h =
    let low : f ≤ h.0 = h.2 in
    let place : h.0 ≡ f + (h.0 - f) = omega (arith, low) in
    let behind : h.0 + 1 ≡ f + suc (h.0 - f) = omega (arith, low) in
    let rest : Chosen (drop (suc (h.0 - f)) (drop f ts)) cs =
    subst (λ (us : List Token). Chosen us cs) (sym (drop_drop f ts (suc (h.0 - f)) (h.0 + 1) behind))
    (on_chosen ts (h.0 + 1) cs h.5) in
    chosen_at (drop f ts) (h.0 - f) h.1 c cs (get_drop f ts (h.0 - f) h.0 place ∙ h.3) h.4 rest
