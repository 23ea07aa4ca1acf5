-- The graph of a plan's answers: each entry of the old graph that is no redirect, as it has become, at its new name.
use Rattle.std.proofs.Common.{◌≡◌, ◌∙◌, ◌≤◌, ◌⊎◌, inl, inr, refl, sym, ap, subst, Bool, true, false, cond, List, [], ◌∷◌, length, Option, Some, None, arith}
use Rattle.std.specs.Prelude.{bytes_eq, is_some}
use Rattle.std.specs.List.{AllByRecursion, IsDistinct}
use Rattle.std.specs.List.Sorted.{IsStrictlySortedBy}
use Rattle.std.specs.Cmp.Lexicographic.{nat_list_eq_equiv}
use Rattle.std.proofs.lemmas.Option.{none-some, same_Some}
use Rattle.url.specs.Parts.{Parts}
use Rattle.es_site.specs.declared.site.Attribute.{Attribute}
use Rattle.es_site.specs.declared.site.DependencyKind.{DependencyKind}
use Rattle.graph_entry.specs.Specifier.{text_of, loadable}
use Rattle.graph_entry.specs.declared.answer.LoadAnswer.{LoadAnswer}
use Rattle.graph_entry.specs.declared.entry.Dependency.{Dependency}
use Rattle.graph_entry.specs.declared.entry.JsModule.{JsModule}
use Rattle.graph_entry.specs.declared.entry.Module.{Module}
use Rattle.graph_entry.specs.declared.entry.Module.TheVariants.{Js, Json, Wasm}
use Rattle.graph_entry.specs.declared.entry.Entry.{Entry}
use Rattle.graph_entry.specs.declared.entry.Entry.TheVariants as entry
use Rattle.graph_builder.specs.Rules.{led_to, edges_of}
use Rattle.graph_builder.specs.Reach.{Specifier, has, IsEntry, IsAnswered}
use Rattle.graph_builder.specs.ByText.{value_at}
use Rattle.graph_builder.specs.Final.{is_redirect, is_module, fits_by, fits_phase, LeadsAmiss, IsFinalEdge, fit, AreFinalEdges, with_edges, IsFinal, with_module, same}
use Rattle.graph_builder.specs.Graph.{IsGraph, IsAscending, entry_of, members_of, texts}
use Rattle.graph_builder.proofs.ByTextLemmas.{has-keys_at, distinct_sorted}
use Rattle.graph_vendor.specs.Names.{Entries, renamed}
use Rattle.graph_vendor.specs.vendored.Vendored.{new_literals, EdgeMoves, EdgesMove, EntryMoves}
use Rattle.graph_vendor.proofs.vendored.Lists.{found, at_first, at_later, apart_key, text_is, either}
use Rattle.graph_vendor.proofs.vendored.Setting.{Setting, entries_of, names_of, old_rules, new_rules, new_answers}
use Rattle.graph_vendor.proofs.vendored.Entries.{Fits, known, is_free_entry, Reaches, reached_at}
use Rattle.graph_vendor.proofs.vendored.Files.{named, module_renamed, others_named}
use Rattle.graph_vendor.proofs.vendored.News.{Newly, newly, wasm_alone}
use Rattle.graph_vendor.proofs.vendored.Reached.{NewReaches, IsName, new_names, names_reached, follows}
use Rattle.graph_vendor.proofs.vendored.Finals.{LeadsInto, into_first, into_later, amiss_back, fits_alike, module_into}
use Rattle.graph_vendor.proofs.vendored.Ordered.{put, put_few, all_put, ascending_put, put_there, put_keeps}

-- ---- the edges of what an entry has become stay

edge_fits : (v : Setting) (m n : JsModule) (d e : Dependency) → n.media_type ≡ m.media_type
    → EdgeMoves (entries_of v) (names_of v) (new_literals (entries_of v) (names_of v) m) d e
    → ((s : Specifier) → led_to (follows v.following m) d ≡ Some s → Reaches v s)
    → Fits (old_rules v) v.answers (Js m) d → IsFinalEdge (new_rules v) (new_answers v) (Js n) e e
edge_fits v m n d e media moves reached ok =
    let lacks = v.following.json_without_attribute in
    fit
    (λ amiss. ok.attribute (amiss_back v m n d e (fits_by lacks d.attribute) (fits_alike lacks d.attribute) media moves
    reached (subst (λ (a : Attribute). LeadsAmiss (new_rules v) (new_answers v) (Js n) e (fits_by lacks a))
    moves.attribute amiss)))
    (λ amiss. ok.phase (amiss_back v m n d e (fits_phase d.kind) (λ a b. refl) media moves reached
    (subst (λ (k : DependencyKind). LeadsAmiss (new_rules v) (new_answers v) (Js n) e (fits_phase k)) moves.kind
    amiss))) refl

edges_fit : (v : Setting) (m n : JsModule) (ds es : List Dependency) → n.media_type ≡ m.media_type
    → EdgesMove (entries_of v) (names_of v) (new_literals (entries_of v) (names_of v) m) ds es → LeadsInto v m ds
    → AllByRecursion (Fits (old_rules v) v.answers (Js m)) ds
    → AreFinalEdges (new_rules v) (new_answers v) (Js n) es es
edges_fit v m n [] [] media moves into ok = tt
edges_fit v m n [] (e ∷ es) media moves into ok = absurd moves
edges_fit v m n (d ∷ ds) [] media moves into ok = absurd moves
edges_fit v m n (d ∷ ds) (e ∷ es) media moves into ok = (
  edge_fits v m n d e media moves.0 (λ s on. into_first v m d ds s into on) ok.0,
  edges_fit v m n ds es media moves.1 (into_later v m d ds into) ok.1,
)

-- ---- what it has become is its final entry

plain_as : (made e : Entry) → made ≡ e → is_module e ≡ false → is_module made ≡ false
plain_as made e is plain = ap is_module is ∙ plain

abbrev IsLast : (v : Setting) → Specifier → Entry → Type 0
IsLast v t made = IsFinal (new_rules v) (new_answers v) t made

source_final : (v : Setting) (s t : Specifier) (m : JsModule) (made : Entry)
    → entry_of (entries_of v) s ≡ Some (entry.Module (Js m)) → IsEntry (new_rules v) (new_answers v) t made
    → EntryMoves (entries_of v) (names_of v) (entry.Module (Js m)) made → IsLast v t made
source_final v s t m made at first moves =
    let n = moves.0 in
    with_module (Js n) (subst (λ (x : Entry). IsEntry (new_rules v) (new_answers v) t x) moves.2 first) n.dependencies
    (edges_fit v m n m.dependencies n.dependencies moves.1.media_type moves.1.edges (module_into v s m at)
    ((known v s (entry.Module (Js m)) at).edges (Js m) refl)) moves.2

pub final_made : (v : Setting) (s t : Specifier) (e made : Entry) → entry_of (entries_of v) s ≡ Some e
    → is_redirect e ≡ false → is_redirect made ≡ false → IsEntry (new_rules v) (new_answers v) t made
    → EntryMoves (entries_of v) (names_of v) e made → IsLast v t made
final_made v s t (entry.Module (Js m)) made at stays ends first moves = source_final v s t m made at first moves
final_made v s t (entry.Module (Json m)) made at stays ends first moves =
    with_module (Json m) (subst (λ (x : Entry). IsEntry (new_rules v) (new_answers v) t x) moves first) [] tt moves
final_made v s t (entry.Module (Wasm m)) made at stays ends first moves =
    let alone : m.dependencies ≡ [] = wasm_alone v s m at in
    with_module (Wasm m) (subst (λ (x : Entry). IsEntry (new_rules v) (new_answers v) t x) moves first) m.dependencies
    (subst (λ (ds : List Dependency). AreFinalEdges (new_rules v) (new_answers v) (Wasm m) ds ds) (sym alone) tt) moves
final_made v s t (entry.Redirect target) made at stays ends first moves = absurd (let bad : ⊥ = cc in bad)
final_made v s t (entry.Package held) made at stays ends first moves =
    same made first ends (plain_as made (entry.Package held) moves refl) refl
final_made v s t entry.External made at stays ends first moves =
    same made first ends (plain_as made entry.External moves refl) refl
final_made v s t (entry.Error fault) made at stays ends first moves =
    absurd (is_free_entry v s (entry.Error fault) at)

-- ---- an entry's new name is the text of a URL

record Place (v : Setting) (s : Specifier) : Type 0 where
  url : Parts
  is : renamed (entries_of v) (names_of v) s ≡ Some (text_of url)

place : (v : Setting) (url : Parts) (e : Entry) → entry_of (entries_of v) (text_of url) ≡ Some e
    → is_redirect e ≡ false → Place v (text_of url)
place v url (entry.Module m) at stays =
    let n = named v (text_of url) m at in
    record { url = n.target; is = module_renamed v (text_of url) m n.target at n.at }
place v url (entry.Redirect target) at stays = absurd (let bad : ⊥ = cc in bad)
place v url (entry.Package held) at stays =
    record { url = url; is = others_named v (text_of url) (entry.Package held) at refl refl }
place v url entry.External at stays =
    record { url = url; is = others_named v (text_of url) entry.External at refl refl }
place v url (entry.Error fault) at stays =
    record { url = url; is = others_named v (text_of url) (entry.Error fault) at refl refl }

-- ---- the entries, one by one

-- it is reached, and its final entry
abbrev IsGood : Setting → Parts × Entry → Type 0
IsGood v x = NewReaches v (text_of x.0) × IsLast v (text_of x.0) x.1

record Built (v : Setting) (es : Entries) : Type 0 where
  news : Entries
  few : length news ≤ length es
  ascending : IsAscending news
  good : AllByRecursion (IsGood v) news
  covers : (s : Specifier) (e : Entry) (t : Specifier) → value_at es s ≡ Some e → is_redirect e ≡ false
      → renamed (entries_of v) (names_of v) s ≡ Some t → has (members_of news) t ≡ true

abbrev Covers : Setting → Entries → Entries → Type 0
Covers v es news =
    (s : Specifier) (e : Entry) (t : Specifier) → value_at es s ≡ Some e → is_redirect e ≡ false
    → renamed (entries_of v) (names_of v) s ≡ Some t → has (members_of news) t ≡ true

-- the one in front is a redirect
past_redirect : (v : Setting) (x : Parts × Entry) (es news : Entries) → is_redirect x.1 ≡ true → Covers v es news
    → Covers v (x ∷ es) news
past_redirect v x es news leads covers s e t at stays is = by (bytes_eq s (text_of x.0)) at
  where
    by : (b : Bool) → cond b (Some x.1) (value_at es s) ≡ Some e → has (members_of news) t ≡ true
    by true h =
        let yes : is_redirect e ≡ true = ap is_redirect (sym (same_Some x.1 e h)) ∙ leads in
        absurd (let bad : ⊥ = cc in bad)
    by false h = covers s e t h stays is

-- the one in front is put at its new name
past_put : (v : Setting) (x put_one : Parts × Entry) (es news : Entries)
    → renamed (entries_of v) (names_of v) (text_of x.0) ≡ Some (text_of put_one.0) → Covers v es news
    → Covers v (x ∷ es) (put put_one news)
past_put v x put_one es news there covers s e t at stays is = by (bytes_eq s (text_of x.0)) refl at
  where
    by : (b : Bool) → bytes_eq s (text_of x.0) ≡ b → cond b (Some x.1) (value_at es s) ≡ Some e
        → has (members_of (put put_one news)) t ≡ true
    by true here h =
        let one : text_of put_one.0 ≡ t =
        same_Some (text_of put_one.0) t
        (sym there ∙ ap (renamed (entries_of v) (names_of v)) (sym (text_is s (text_of x.0) here)) ∙ is) in
        subst (λ (r : Specifier). has (members_of (put put_one news)) r ≡ true) one (put_there put_one news)
    by false here h = put_keeps put_one news t (covers s e t h stays is)

abbrev Stand : Setting → Parts × Entry → Type 0
Stand v x = entry_of (entries_of v) (text_of x.0) ≡ Some x.1

built_one : (v : Setting) (x : Parts × Entry) (es : Entries) → Stand v x → is_redirect x.1 ≡ false → Built v es
    → Built v (x ∷ es)
built_one v x es at stays rest =
    let p = place v x.0 x.1 at stays in
    let n = newly v (text_of x.0) x.1 at stays in
    let one : n.name ≡ text_of p.url = same_Some n.name (text_of p.url) (sym n.named ∙ p.is) in
    let first : IsEntry (new_rules v) (new_answers v) (text_of p.url) n.made =
    subst (λ (r : Specifier). IsEntry (new_rules v) (new_answers v) r n.made) one n.first in
    let reached = names_reached v (text_of x.0) (text_of p.url) (reached_at v (text_of x.0) x.1 at) p.is in
    let most = put_few (p.url, n.made) rest.news in
    let before = rest.few in
    record {
      news = put (p.url, n.made) rest.news;
      few = omega (arith, most, before);
      ascending = ascending_put (p.url, n.made) rest.news rest.ascending;
      good = all_put (IsGood v) (p.url, n.made) rest.news
          (reached, final_made v (text_of x.0) (text_of p.url) x.1 n.made at stays n.stays first n.moves) rest.good;
      covers = past_put v x (p.url, n.made) es rest.news p.is rest.covers;
    }

built : (v : Setting) (es : Entries) → AllByRecursion (Stand v) es → Built v es
unfolding IsStrictlySortedBy
built v [] all = record {
  news = [];
  few = omega arith;
  ascending = tt;
  good = tt;
  covers = λ s e t at stays is. absurd (none-some e at);
}
built v (x ∷ es) all = by (either (is_redirect x.1)) (built v es all.1)
  where
    by : (is_redirect x.1 ≡ true) ⊎ (is_redirect x.1 ≡ false) → Built v es → Built v (x ∷ es)
    by (inl leads) rest = let before = rest.few in record {
      news = rest.news;
      few = omega (arith, before);
      ascending = rest.ascending;
      good = rest.good;
      covers = past_redirect v x es rest.news leads rest.covers;
    }
    by (inr stays) rest = built_one v x es all.0 stays rest

-- ---- the old entries stand at their specifiers

abbrev pub Found : Entries → Parts × Entry → Type 0
Found es x = entry_of es (text_of x.0) ≡ Some x.1

found_later : (x : Parts × Entry) (es left : Entries)
    → AllByRecursion (λ t. bytes_eq (text_of x.0) t ≡ false) (members_of es) → AllByRecursion (Found es) left
    → AllByRecursion (Found (x ∷ es)) left
found_later x es [] apart all = tt
found_later x es (y ∷ left) apart all = (
  at_later x es (text_of y.0) (apart_key (text_of x.0) (text_of y.0) es y.1 apart all.0) ∙ all.0,
  found_later x es left apart all.1,
)

pub each_found : (es : Entries) → IsDistinct bytes_eq (members_of es) → AllByRecursion (Found es) es
unfolding IsDistinct
each_found [] apart = tt
each_found (x ∷ es) apart = (
  at_first x es (text_of x.0) (nat_list_eq_equiv.refl (text_of x.0)),
  found_later x es es apart.0 (each_found es apart.1),
)

-- ---- the graph

pub record HasGraph (v : Setting) : Type 0 where
  pub news : Entries
  pub few : length news ≤ length (entries_of v)
  pub is_graph : IsGraph (new_rules v) (texts v.plan.roots) (new_answers v) news

pub has_graph : (v : Setting) → HasGraph v
has_graph v =
    let b = built v (entries_of v)
    (each_found (entries_of v) (distinct_sorted (members_of (entries_of v)) v.old.ascending)) in
    record {
      news = b.news;
      few = b.few;
      is_graph = record {
        ascending = b.ascending;
        members = record {
          once = distinct_sorted (members_of b.news) b.ascending;
          reached = λ t h. reached_in b.news b.good t h;
          all = λ t reached. let name = new_names v t reached in
              b.covers name.s name.old t name.at name.stays name.named;
        };
        each = λ t x at. let one = found (IsGood v) b.news t x b.good at in
            subst (λ (r : Specifier). IsLast v r x) (sym one.1) one.2.1;
      };
    }
  where
    reached_in : (news : Entries) → AllByRecursion (IsGood v) news → (t : Specifier) → has (members_of news) t ≡ true
        → NewReaches v t
    reached_in news good t h = by (value_at news t) refl (sym (has-keys_at news t) ∙ h)
      where
        by : (o : Option Entry) → value_at news t ≡ o → is_some o ≡ true → NewReaches v t
        by None e some = absurd (let bad : ⊥ = cc in bad)
        by (Some x) e some =
            let one = found (IsGood v) news t x good e in subst (NewReaches v) (sym one.1) one.2.0

-- each specifier that is reached, and that a loader is asked for, is answered
pub answered : (v : Setting) (t : Specifier) → NewReaches v t → loadable t ≡ true
    → (a : LoadAnswer) × (new_answers v t ≡ Some a)
answered v t reached loads =
    let name = new_names v t reached in
    let n = newly v name.s name.old name.at name.stays in
    let one : n.name ≡ t = same_Some n.name t (sym n.named ∙ name.named) in
    by n.made (subst (λ (r : Specifier). IsEntry (new_rules v) (new_answers v) r n.made) one n.first)
  where
    by : (made : Entry) → IsEntry (new_rules v) (new_answers v) t made
        → (a : LoadAnswer) × (new_answers v t ≡ Some a)
    by made (inl is) = (is.answer, is.given)
    by made (inr unasked) = absurd (let no = sym unasked.0 ∙ loads in let bad : ⊥ = cc in bad)
