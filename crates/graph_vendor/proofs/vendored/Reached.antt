-- What is reached over a plan's answers: the new names of what was reached.
use Rattle.std.proofs.Common.{◌≡◌, ◌∙◌, refl, sym, ap, subst, ℕ, zero, suc, ◌≤◌, Bool, true, false, List, [], ◌∷◌, Option, Some, None, arith, inl, inr}
use Rattle.std.specs.Prelude.{bytes_eq, ◌&&◌, ◌||◌, not, option_and_then, if◌then◌else◌}
use Rattle.std.specs.List.{cons_option, filter_map}
use Rattle.std.specs.Cmp.Lexicographic.{nat_list_eq_equiv}
use Rattle.std.proofs.lemmas.Option.{none-some, same_Some}
use Rattle.url.specs.Parts.{Parts}
use Rattle.es_site.specs.declared.site.DependencyKind.{DependencyKind}
use Rattle.media_type.specs.declared.media_type.MediaType.{MediaType}
use Rattle.media_type.specs.MediaType.{is_typed}
use Rattle.source_text.specs.declared.text_changes.change.TextChange.{TextChange}
use Rattle.graph_entry.specs.declared.kind.GraphKind.{GraphKind}
use Rattle.graph_entry.specs.declared.kind.GraphKind.TheVariants.{All, CodeOnly, TypesOnly}
use Rattle.graph_entry.specs.declared.entry.Dependency.{Dependency}
use Rattle.graph_entry.specs.declared.entry.JsModule.{JsModule}
use Rattle.graph_entry.specs.declared.entry.Module.TheVariants.{Js, Json, Wasm}
use Rattle.graph_entry.specs.declared.entry.Entry.{Entry}
use Rattle.graph_entry.specs.declared.entry.Entry.TheVariants as entry
use Rattle.graph_entry.specs.Specifier.{text_of}
use Rattle.graph_entry.specs.Entry.{edge_target}
use Rattle.graph_entry.proofs.Theorems.{analysed_once}
use Rattle.graph_builder.specs.declared.following.Following.{Following}
use Rattle.graph_builder.specs.Rules.{targets, led_to, of_kind, is_place, is_dynamic, is_followed}
use Rattle.graph_builder.specs.Reach.{Specifier, has, IsEntry, IsReached, Leads, IsFunctional}
use Rattle.graph_builder.specs.Final.{Redirects, most_redirects, is_redirect, IsFinal, redirect, too_far, with_module, same}
use Rattle.graph_builder.specs.Graph.{entry_of, resolved, texts}
use Rattle.graph_builder.proofs.ReachLemmas.{entry_once, reached_start, reached_on, reached_least}
use Rattle.graph_vendor.specs.Names.{Entries, Names, renamed_by, renamed}
use Rattle.graph_builder.specs.ByText.{value_at}
use Rattle.graph_vendor.specs.vendored.Vendored.{new_literals, EdgeMoves, EdgesMove, SourceMoves, EntryMoves}
use Rattle.graph_vendor.proofs.vendored.Lists.{text_is, one_of, or_later, has_mapped, has_each, has_renamed}
use Rattle.graph_vendor.proofs.vendored.Setting.{Setting, entries_of, names_of, old_rules, new_rules, new_answers}
use Rattle.graph_vendor.proofs.vendored.Entries.{known, Reaches, held_at, reached_at, only_entry, redirect_reached, along, Led, led, resolved_here}
use Rattle.graph_vendor.proofs.vendored.News.{Newly, newly, wasm_alone}

-- ---- redirects are resolved away

pub new_once : (v : Setting) → IsFunctional (new_rules v)
new_once v = analysed_once

-- a specifier has the new name of where it is resolved to
renamed_on : (v : Setting) (s end : Specifier) → resolved (entries_of v) s ≡ resolved (entries_of v) end
    → renamed (entries_of v) (names_of v) s ≡ renamed (entries_of v) (names_of v) end
renamed_on v s end e = ap (λ (r : Specifier). renamed_by (value_at (names_of v) r) r) e

pub led_renamed : (v : Setting) (s : Specifier) (l : Led v s)
    → renamed (entries_of v) (names_of v) s ≡ renamed (entries_of v) (names_of v) l.end
led_renamed v s l =
    renamed_on v s l.end (l.resolved_to ∙ sym (resolved_here v l.end l.last l.at l.stays))

-- a redirect is resolved to what its target is resolved to
redirect_on : (v : Setting) (s : Specifier) (next : Parts) (last : Entry) (k : ℕ) (end : Specifier) → Reaches v s
    → entry_of (entries_of v) s ≡ Some (entry.Redirect next) → k ≤ most_redirects
    → Redirects (old_rules v) v.answers k s end → IsEntry (old_rules v) v.answers end last → is_redirect last ≡ false
    → resolved (entries_of v) s ≡ resolved (entries_of v) (text_of next)
redirect_on v s next last zero end reached at few way is stays =
    let first : IsEntry (old_rules v) v.answers s last =
    subst (λ (r : Specifier). IsEntry (old_rules v) v.answers r last) (sym way) is in
    let one : entry.Redirect next ≡ last = only_entry v s (entry.Redirect next) last at first in
    let yes = ap is_redirect one in absurd (let bad : ⊥ = cc in bad)
redirect_on v s next last (suc k) end reached at few way is stays =
    let one : entry.Redirect next ≡ entry.Redirect way.0 =
    only_entry v s (entry.Redirect next) (entry.Redirect way.0) at way.1 in
    let target : next ≡ way.0 = cc in
    let there = redirect_reached v s way.0 reached way.1 in
    let whole = along v most_redirects (suc k) s end last few reached way is stays in
    let rest = along v most_redirects k (text_of way.0) end last (omega (arith, few)) there way.2 is stays in
    whole.0 ∙ sym rest.0 ∙ ap (λ (p : Parts). resolved (entries_of v) (text_of p)) (sym target)

redirect_same : (v : Setting) (s : Specifier) (next : Parts) → Reaches v s
    → entry_of (entries_of v) s ≡ Some (entry.Redirect next)
    → resolved (entries_of v) s ≡ resolved (entries_of v) (text_of next)
redirect_same v s next reached at = by (v.old.each s (entry.Redirect next) at)
  where
    by : IsFinal (old_rules v) v.answers s (entry.Redirect next)
        → resolved (entries_of v) s ≡ resolved (entries_of v) (text_of next)
    by (redirect target is last leads stays made) =
        redirect_on v s next last leads.steps leads.end reached at leads.few leads.way leads.is_entry stays
    by (too_far target is far made) = absurd (let bad : ⊥ = cc in bad)
    by (with_module first is edges are made) = absurd (let bad : ⊥ = cc in bad)
    by (same first is stays plain made) = let yes = ap is_redirect made in absurd (let bad : ⊥ = cc in bad)

-- ---- edges lead to the new names of what they led to

kind_same : (kind : GraphKind) (typed : Bool) (d e : Dependency) → e.kind ≡ d.kind → e.type_only ≡ d.type_only
    → of_kind kind typed e ≡ of_kind kind typed d
kind_same All typed d e k t = ap (λ (x : DependencyKind). not (is_place x)) k
kind_same CodeOnly typed d e k t = ap (λ (b : Bool). not b && not (is_place e.kind)) t
    ∙ ap (λ (x : DependencyKind). not d.type_only && not (is_place x)) k
kind_same TypesOnly typed d e k t = rw k refl

pub follow_same : (following : Following) (typed : Bool) (entries : Entries) (names : Names) (changes : List TextChange)
    (d e : Dependency) → EdgeMoves entries names changes d e
    → is_followed following typed e ≡ is_followed following typed d
follow_same following typed entries names changes d e is =
    ap (λ (b : Bool). b && not (following.skip_dynamic_deps && is_dynamic e.kind))
    (kind_same following.kind typed d e is.kind is.type_only)
    ∙ ap (λ (k : DependencyKind). of_kind following.kind typed d && not (following.skip_dynamic_deps && is_dynamic k))
    is.kind

led_new : (entries : Entries) (names : Names) (changes : List TextChange) (f : Dependency → Bool) (d e : Dependency)
    → EdgeMoves entries names changes d e → f e ≡ f d
    → led_to f e ≡ option_and_then (renamed entries names) (led_to f d)
led_new entries names changes f d e is follows = ap (λ (b : Bool). if b then edge_target e else None) follows ∙ by (f d)
  where
    by : (b : Bool) → (if b then edge_target e else None)
        ≡ option_and_then (renamed entries names) (if b then edge_target d else None)
    by true = is.target
    by false = refl

-- of one edge, and those behind it
forth : (entries : Entries) (names : Names) (o p : Option Specifier) (olds news : List Specifier) (s t : Specifier)
    → p ≡ option_and_then (renamed entries names) o → renamed entries names s ≡ Some t
    → (has olds s ≡ true → has news t ≡ true) → has (cons_option o olds) s ≡ true → has (cons_option p news) t ≡ true
forth entries names None p olds news s t e named later h =
    ap (λ (q : Option Specifier). has (cons_option q news) t) e ∙ later h
forth entries names (Some u) p olds news s t e named later h =
    elim (one_of (bytes_eq s u) (has olds s) h) [
      | inl here ↦
          let one : p ≡ Some t = e ∙ ap (renamed entries names) (sym (text_is s u here)) ∙ named in
          ap (λ (q : Option Specifier). has (cons_option q news) t) one
          ∙ ap (λ (b : Bool). b || has news t) (nat_list_eq_equiv.refl t)
      | inr there ↦ behind p (later there)
    ]
  where
    behind : (q : Option Specifier) → has news t ≡ true → has (cons_option q news) t ≡ true
    behind None k = k
    behind (Some w) k = or_later (bytes_eq t w) (has news t) k

-- what it led to
abbrev Came : Entries → Names → List Specifier → Specifier → Type 0
Came entries names olds t = (s : Specifier) × (has olds s ≡ true) × (renamed entries names s ≡ Some t)

later_came : (entries : Entries) (names : Names) (o : Option Specifier) (olds : List Specifier) (t : Specifier)
    → Came entries names olds t → Came entries names (cons_option o olds) t
later_came entries names None olds t c = c
later_came entries names (Some u) olds t c = (c.0, or_later (bytes_eq c.0 u) (has olds c.0) c.1, c.2)

back : (entries : Entries) (names : Names) (o p : Option Specifier) (olds news : List Specifier) (t : Specifier)
    → p ≡ option_and_then (renamed entries names) o → (has news t ≡ true → Came entries names olds t)
    → has (cons_option p news) t ≡ true → Came entries names (cons_option o olds) t
back entries names o None olds news t e later h = later_came entries names o olds t (later h)
back entries names None (Some w) olds news t e later h = absurd (none-some w (sym e))
back entries names (Some u) (Some w) olds news t e later h =
    elim (one_of (bytes_eq t w) (has news t) h) [
      | inl here ↦ (
        u,
        ap (λ (b : Bool). b || has olds u) (nat_list_eq_equiv.refl u),
        sym e ∙ ap Some (sym (text_is t w here)),
      )
      | inr there ↦ later_came entries names (Some u) olds t (later there)
    ]

abbrev Alike : Entries → Names → List TextChange → (Dependency → Bool) → Type 0
Alike entries names changes f = (d e : Dependency) → EdgeMoves entries names changes d e → f e ≡ f d

edges_forth : (entries : Entries) (names : Names) (changes : List TextChange) (f : Dependency → Bool)
    (ds es : List Dependency) (s t : Specifier) → Alike entries names changes f → EdgesMove entries names changes ds es
    → renamed entries names s ≡ Some t → has (filter_map (led_to f) ds) s ≡ true
    → has (filter_map (led_to f) es) t ≡ true
edges_forth entries names changes f [] [] s t alike move named h = absurd (let bad : ⊥ = cc in bad)
edges_forth entries names changes f [] (e ∷ es) s t alike move named h = absurd move
edges_forth entries names changes f (d ∷ ds) [] s t alike move named h = absurd move
edges_forth entries names changes f (d ∷ ds) (e ∷ es) s t alike move named h =
    forth entries names (led_to f d) (led_to f e) (filter_map (led_to f) ds) (filter_map (led_to f) es) s t
    (led_new entries names changes f d e move.0 (alike d e move.0)) named
    (λ k. edges_forth entries names changes f ds es s t alike move.1 named k) h

edges_back : (entries : Entries) (names : Names) (changes : List TextChange) (f : Dependency → Bool)
    (ds es : List Dependency) (t : Specifier) → Alike entries names changes f → EdgesMove entries names changes ds es
    → has (filter_map (led_to f) es) t ≡ true → Came entries names (filter_map (led_to f) ds) t
edges_back entries names changes f [] [] t alike move h = absurd (let bad : ⊥ = cc in bad)
edges_back entries names changes f [] (e ∷ es) t alike move h = absurd move
edges_back entries names changes f (d ∷ ds) [] t alike move h = absurd move
edges_back entries names changes f (d ∷ ds) (e ∷ es) t alike move h =
    back entries names (led_to f d) (led_to f e) (filter_map (led_to f) ds) (filter_map (led_to f) es) t
    (led_new entries names changes f d e move.0 (alike d e move.0))
    (λ k. edges_back entries names changes f ds es t alike move.1 k) h

-- ---- entries lead to the new names of what they led to

abbrev pub follows : Following → JsModule → Dependency → Bool
follows following m = is_followed following (is_typed m.media_type)

js_forth : (v : Setting) (m n : JsModule) (s t : Specifier) → SourceMoves (entries_of v) (names_of v) m n
    → renamed (entries_of v) (names_of v) s ≡ Some t → has (targets (old_rules v) (entry.Module (Js m))) s ≡ true
    → has (targets (new_rules v) (entry.Module (Js n))) t ≡ true
unfolding targets
js_forth v m n s t moves named h =
    subst (λ (media : MediaType). has (filter_map (led_to (is_followed v.following (is_typed media))) n.dependencies) t
    ≡ true)
    (sym moves.media_type)
    (edges_forth (entries_of v) (names_of v) (new_literals (entries_of v) (names_of v) m) (follows v.following m)
    m.dependencies n.dependencies s t
    (λ d e is. follow_same v.following (is_typed m.media_type) (entries_of v) (names_of v)
    (new_literals (entries_of v) (names_of v) m) d e is) moves.edges named h)

js_back : (v : Setting) (m n : JsModule) (t : Specifier) → SourceMoves (entries_of v) (names_of v) m n
    → has (targets (new_rules v) (entry.Module (Js n))) t ≡ true
    → Came (entries_of v) (names_of v) (targets (old_rules v) (entry.Module (Js m))) t
unfolding targets
js_back v m n t moves h =
    edges_back (entries_of v) (names_of v) (new_literals (entries_of v) (names_of v) m) (follows v.following m)
    m.dependencies n.dependencies t
    (λ d e is. follow_same v.following (is_typed m.media_type) (entries_of v) (names_of v)
    (new_literals (entries_of v) (names_of v) m) d e is) moves.edges
    (subst (λ (media : MediaType). has (filter_map (led_to (is_followed v.following (is_typed media))) n.dependencies) t
    ≡ true) moves.media_type h)

-- an entry that leads nowhere
leads_nowhere : (v : Setting) (s : Specifier) (e : Entry) → entry_of (entries_of v) s ≡ Some e
    → is_redirect e ≡ false → ((m : JsModule) → e ≡ entry.Module (Js m) → ⊥)
    → (targets (old_rules v) e ≡ []) × (targets (new_rules v) e ≡ [])
unfolding targets
leads_nowhere v s (entry.Redirect target) at stays none = absurd (let bad : ⊥ = cc in bad)
leads_nowhere v s (entry.Module (Js m)) at stays none = absurd (none m refl)
leads_nowhere v s (entry.Module (Json m)) at stays none = (refl, refl)
leads_nowhere v s (entry.Module (Wasm m)) at stays none = (
  ap (filter_map (led_to (is_followed v.following false))) (wasm_alone v s m at),
  ap (filter_map (led_to (is_followed v.following false))) (wasm_alone v s m at),
)
leads_nowhere v s (entry.Package held) at stays none = (refl, refl)
leads_nowhere v s entry.External at stays none = (refl, refl)
leads_nowhere v s (entry.Error fault) at stays none = (refl, refl)

nothing : (ts : List Specifier) (t : Specifier) → ts ≡ [] → has ts t ≡ true → ⊥
nothing ts t e h = let no = sym h ∙ ap (λ (us : List Specifier). has us t) e in let bad : ⊥ = cc in bad

pub entry_forth : (v : Setting) (r : Specifier) (e made : Entry) (s t : Specifier)
    → entry_of (entries_of v) r ≡ Some e → is_redirect e ≡ false → EntryMoves (entries_of v) (names_of v) e made
    → renamed (entries_of v) (names_of v) s ≡ Some t → has (targets (old_rules v) e) s ≡ true
    → has (targets (new_rules v) made) t ≡ true
entry_forth v r (entry.Module (Js m)) made s t at stays moves named h =
    subst (λ (x : Entry). has (targets (new_rules v) x) t ≡ true) (sym moves.2)
    (js_forth v m moves.0 s t moves.1 named h)
entry_forth v r (entry.Module (Json m)) made s t at stays moves named h =
    absurd (nothing _ s (leads_nowhere v r (entry.Module (Json m)) at stays (λ n e. let bad : ⊥ = cc in bad)).0 h)
entry_forth v r (entry.Module (Wasm m)) made s t at stays moves named h =
    absurd (nothing _ s (leads_nowhere v r (entry.Module (Wasm m)) at stays (λ n e. let bad : ⊥ = cc in bad)).0 h)
entry_forth v r (entry.Redirect target) made s t at stays moves named h = absurd (let bad : ⊥ = cc in bad)
entry_forth v r (entry.Package held) made s t at stays moves named h =
    absurd (nothing _ s (leads_nowhere v r (entry.Package held) at stays (λ n e. let bad : ⊥ = cc in bad)).0 h)
entry_forth v r entry.External made s t at stays moves named h =
    absurd (nothing _ s (leads_nowhere v r entry.External at stays (λ n e. let bad : ⊥ = cc in bad)).0 h)
entry_forth v r (entry.Error fault) made s t at stays moves named h =
    absurd (nothing _ s (leads_nowhere v r (entry.Error fault) at stays (λ n e. let bad : ⊥ = cc in bad)).0 h)

same_back : (v : Setting) (r : Specifier) (e made : Entry) (t : Specifier) → entry_of (entries_of v) r ≡ Some e
    → is_redirect e ≡ false → ((m : JsModule) → e ≡ entry.Module (Js m) → ⊥) → made ≡ e
    → has (targets (new_rules v) made) t ≡ true → ⊥
same_back v r e made t at stays none moves h =
    nothing (targets (new_rules v) made) t
    (ap (targets (new_rules v)) moves ∙ (leads_nowhere v r e at stays none).1) h

pub entry_back : (v : Setting) (r : Specifier) (e made : Entry) (t : Specifier)
    → entry_of (entries_of v) r ≡ Some e → is_redirect e ≡ false → EntryMoves (entries_of v) (names_of v) e made
    → has (targets (new_rules v) made) t ≡ true
    → Came (entries_of v) (names_of v) (targets (old_rules v) e) t
entry_back v r (entry.Module (Js m)) made t at stays moves h =
    js_back v m moves.0 t moves.1
    (subst (λ (x : Entry). has (targets (new_rules v) x) t ≡ true) moves.2 h)
entry_back v r (entry.Module (Json m)) made t at stays moves h =
    absurd (same_back v r (entry.Module (Json m)) made t at stays (λ n e. let bad : ⊥ = cc in bad) moves h)
entry_back v r (entry.Module (Wasm m)) made t at stays moves h =
    absurd (same_back v r (entry.Module (Wasm m)) made t at stays (λ n e. let bad : ⊥ = cc in bad) moves h)
entry_back v r (entry.Redirect target) made t at stays moves h = absurd (let bad : ⊥ = cc in bad)
entry_back v r (entry.Package held) made t at stays moves h =
    absurd (same_back v r (entry.Package held) made t at stays (λ n e. let bad : ⊥ = cc in bad) moves h)
entry_back v r entry.External made t at stays moves h =
    absurd (same_back v r entry.External made t at stays (λ n e. let bad : ⊥ = cc in bad) moves h)
entry_back v r (entry.Error fault) made t at stays moves h =
    absurd (same_back v r (entry.Error fault) made t at stays (λ n e. let bad : ⊥ = cc in bad) moves h)

-- ---- what is reached

abbrev pub NewReaches : Setting → Specifier → Type 0
NewReaches v t = IsReached (new_rules v) (texts v.plan.roots) (new_answers v) t

-- the specifier is the new name of an entry
pub record IsName (v : Setting) (t : Specifier) : Type 0 where
  pub s : Specifier
  pub old : Entry
  pub at : entry_of (entries_of v) s ≡ Some old
  pub stays : is_redirect old ≡ false
  pub named : renamed (entries_of v) (names_of v) s ≡ Some t

reached_name : (v : Setting) (s t : Specifier) → Reaches v s → renamed (entries_of v) (names_of v) s ≡ Some t
    → IsName v t
reached_name v s t reached named =
    let l = led v s reached in
    record { s = l.end; old = l.last; at = l.at; stays = l.stays; named = sym (led_renamed v s l) ∙ named }

pub step_reached : (v : Setting) (r s : Specifier) (e : Entry) → entry_of (entries_of v) r ≡ Some e
    → has (targets (old_rules v) e) s ≡ true → Reaches v s
step_reached v r s e at h =
    reached_on (old_rules v) (texts v.graph.roots) v.answers r s (reached_at v r e at)
    (record { entry = e; is_entry = (known v r e at).first; among = h })

-- the entry over the new answers at a new name
pub only_new : (v : Setting) (s t : Specifier) (e x : Entry) (n : Newly v s e)
    → renamed (entries_of v) (names_of v) s ≡ Some t → IsEntry (new_rules v) (new_answers v) t x → n.made ≡ x
only_new v s t e x n named is =
    let one : n.name ≡ t = same_Some n.name t (sym n.named ∙ named) in
    entry_once (new_rules v) (new_once v) (new_answers v) t n.made x
    (subst (λ (r : Specifier). IsEntry (new_rules v) (new_answers v) r n.made) one n.first) is

start_name : (v : Setting) (t : Specifier) → has (texts v.plan.roots) t ≡ true → IsName v t
start_name v t h =
    let f : Parts → Option Specifier = λ url. renamed (entries_of v) (names_of v) (text_of url) in
    let came = has_mapped f v.graph.roots t (sym (ap (λ (ts : List Specifier). has ts t) v.made.roots) ∙ h)
    (λ url. has (texts v.graph.roots) (text_of url) ≡ true) (has_each v.graph.roots) in
    reached_name v (text_of came.0) t
    (reached_start (old_rules v) (texts v.graph.roots) v.answers (text_of came.0) came.1) came.2

step_name : (v : Setting) (r t : Specifier) → IsName v r → Leads (new_rules v) (new_answers v) r t → IsName v t
step_name v r t name l =
    let n = newly v name.s name.old name.at name.stays in
    let one : n.made ≡ l.entry = only_new v name.s r name.old l.entry n name.named l.is_entry in
    let among : has (targets (new_rules v) n.made) t ≡ true =
    subst (λ (x : Entry). has (targets (new_rules v) x) t ≡ true) (sym one) l.among in
    let came = entry_back v name.s name.old n.made t name.at name.stays n.moves among in
    reached_name v came.0 t (step_reached v name.s came.0 name.old name.at came.1) came.2

-- all that is reached is a new name
pub new_names : (v : Setting) (t : Specifier) → NewReaches v t → IsName v t
new_names v =
    reached_least (new_rules v) (texts v.plan.roots) (new_answers v) (IsName v) (start_name v) (step_name v)

record Passed (v : Setting) (s : Specifier) : Type 0 where
  reached : Reaches v s
  there : (t : Specifier) → renamed (entries_of v) (names_of v) s ≡ Some t → NewReaches v t

start_passed : (v : Setting) (s : Specifier) → has (texts v.graph.roots) s ≡ true → Passed v s
start_passed v s h = record {
  reached = reached_start (old_rules v) (texts v.graph.roots) v.answers s h;
  there = λ t named.
      reached_start (new_rules v) (texts v.plan.roots) (new_answers v) t
      (ap (λ (ts : List Specifier). has ts t) v.made.roots
      ∙ has_renamed (renamed (entries_of v) (names_of v)) v.graph.roots s t h named);
}

step_on : (v : Setting) (r s t : Specifier) (e : Entry) → Passed v r → entry_of (entries_of v) r ≡ Some e
    → is_redirect e ≡ false → has (targets (old_rules v) e) s ≡ true
    → renamed (entries_of v) (names_of v) s ≡ Some t → NewReaches v t
step_on v r s t e passed at stays among named =
    let n = newly v r e at stays in
    reached_on (new_rules v) (texts v.plan.roots) (new_answers v) n.name t (passed.there n.name n.named)
    (record {
      entry = n.made;
      is_entry = n.first;
      among = entry_forth v r e n.made s t at stays n.moves named among;
    })

step_over : (v : Setting) (r s t : Specifier) (next : Parts) → Passed v r
    → entry_of (entries_of v) r ≡ Some (entry.Redirect next)
    → has (targets (old_rules v) (entry.Redirect next)) s ≡ true
    → renamed (entries_of v) (names_of v) s ≡ Some t → NewReaches v t
unfolding targets
step_over v r s t next passed at among named =
    let there : s ≡ text_of next =
    elim (one_of (bytes_eq s (text_of next)) false among) [
      | inl here ↦ text_is s (text_of next) here
      | inr bad ↦ absurd (let no : ⊥ = cc in no)
    ] in
    let on : resolved (entries_of v) r ≡ resolved (entries_of v) s =
    redirect_same v r next passed.reached at ∙ ap (resolved (entries_of v)) (sym there) in
    passed.there t (renamed_on v r s on ∙ named)

step_by : (v : Setting) (r s t : Specifier) (e : Entry) → Passed v r → entry_of (entries_of v) r ≡ Some e
    → has (targets (old_rules v) e) s ≡ true → renamed (entries_of v) (names_of v) s ≡ Some t → NewReaches v t
step_by v r s t (entry.Redirect next) passed at among named = step_over v r s t next passed at among named
step_by v r s t (entry.Module m) passed at among named = step_on v r s t (entry.Module m) passed at refl among named
step_by v r s t (entry.Package held) passed at among named =
    step_on v r s t (entry.Package held) passed at refl among named
step_by v r s t entry.External passed at among named = step_on v r s t entry.External passed at refl among named
step_by v r s t (entry.Error fault) passed at among named =
    step_on v r s t (entry.Error fault) passed at refl among named

step_passed : (v : Setting) (r s : Specifier) → Passed v r → Leads (old_rules v) v.answers r s → Passed v s
step_passed v r s passed l =
    let here = held_at v r passed.reached in
    let one : here.entry ≡ l.entry = only_entry v r here.entry l.entry here.at l.is_entry in
    let at : entry_of (entries_of v) r ≡ Some l.entry = here.at ∙ ap Some one in
    record {
      reached = reached_on (old_rules v) (texts v.graph.roots) v.answers r s passed.reached l;
      there = λ t named. step_by v r s t l.entry passed at l.among named;
    }

-- the new name of what is reached is reached
pub names_reached : (v : Setting) (s t : Specifier) → Reaches v s → renamed (entries_of v) (names_of v) s ≡ Some t
    → NewReaches v t
names_reached v s t reached named =
    let p = reached_least (old_rules v) (texts v.graph.roots) v.answers (Passed v) (start_passed v) (step_passed v) s
    reached in p.there t named
