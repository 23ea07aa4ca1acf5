-- The entries of a graph of which there is a plan: each is what its answer means, all edges fit, and redirects lead to
-- entries.
use Rattle.std.proofs.Common.{◌≡◌, ◌∙◌, refl, sym, ap, subst, ℕ, zero, suc, ◌≤◌, Bool, true, false, List, [], ◌∷◌, arith, Option, Some, None, inl, inr}
use Rattle.std.specs.Prelude.{codes, is_some, ◌||◌, option_and_then}
use Rattle.std.specs.List.{AllByRecursion}
use Rattle.std.specs.Option.{option_or}
use Rattle.std.specs.Cmp.Lexicographic.{nat_list_eq_equiv}
use Rattle.url.specs.Parts.{Parts}
use Rattle.graph_entry.specs.Specifier.{text_of}
use Rattle.graph_entry.specs.Resolution.{has_scheme}
use Rattle.graph_entry.specs.Reading.{Reading}
use Rattle.graph_entry.specs.declared.resolution.ResolutionError.{ResolutionError}
use Rattle.graph_entry.specs.declared.entry.Dependency.{Dependency}
use Rattle.graph_entry.specs.declared.entry.JsModule.{JsModule}
use Rattle.graph_entry.specs.declared.entry.Module.{Module}
use Rattle.graph_entry.specs.declared.entry.Module.TheVariants.{Js, Json, Wasm}
use Rattle.graph_entry.specs.declared.entry.Entry.{Entry}
use Rattle.graph_entry.specs.declared.entry.Entry.TheVariants as entry
use Rattle.graph_entry.proofs.Theorems.{analysed_by_once}
use Rattle.graph_builder.specs.Rules.{edges_of, targets}
use Rattle.graph_builder.specs.Reach.{Specifier, Answers, Rules, IsEntry, IsReached, IsFunctional}
use Rattle.graph_builder.specs.Final.{Redirects, most_redirects, redirect_of, is_redirect, LeadsTo, IsMisfit, IsPhaseMisfit, refused_edge, IsFinalEdge, misfit, phase_misfit, fit, AreFinalEdges, with_edges, is_module, IsFinal, redirect, too_far, with_module, same}
use Rattle.graph_builder.specs.Graph.{entry_of, redirected, on_from, resolved_over, resolved, texts}
use Rattle.graph_builder.proofs.ReachLemmas.{entry_once, reached_on}
use Rattle.graph_builder.proofs.ByTextLemmas.{has-keys_at}
use Rattle.graph_vendor.specs.Names.{Entries}
use Rattle.graph_vendor.specs.Refused.{edge_cause, edges_cause, IsOwn, OfSource, own, other, HasCause, IsFirstRefused}
use Rattle.graph_vendor.proofs.vendored.Lists.{found}
use Rattle.graph_vendor.proofs.vendored.Setting.{Setting, entries_of, old_rules}

-- ---- nothing is refused

abbrev Causeless : Reading → Parts × Entry → Type 0
Causeless reads e = HasCause reads (has_scheme (codes "data") e.0) (text_of e.0) e.1 None

all_causeless : (reads : Reading) (es : Entries) → IsFirstRefused reads es None → AllByRecursion (Causeless reads) es
all_causeless reads [] h = tt
all_causeless reads (e ∷ es) (inl (cause, has_it, told)) = absurd (let bad : ⊥ = cc in bad)
all_causeless reads (e ∷ es) (inr (has_none, later)) = (has_none, all_causeless reads es later)

-- what an entry without a cause is
abbrev pub IsFree : Reading → Specifier → Entry → Type 0
IsFree reads s (entry.Module (Js m)) = IsOwn reads s m × (edges_cause m.dependencies ≡ None)
IsFree reads s (entry.Module (Json m)) = Unit {0}
IsFree reads s (entry.Module (Wasm m)) = edges_cause m.dependencies ≡ None
IsFree reads s (entry.Error fault) = ⊥
IsFree reads s _ = Unit {0}

free_source : (reads : Reading) (s : Specifier) (m : JsModule) → OfSource reads s m None
    → IsOwn reads s m × (edges_cause m.dependencies ≡ None)
free_source reads s m (own is e) = (is, sym e)
free_source reads s m (other isnt e) = absurd (let bad : ⊥ = cc in bad)

free_by : (reads : Reading) (data_url : Bool) (s : Specifier) (e : Entry) → HasCause reads data_url s e None
    → IsFree reads s e
free_by reads true s e h = absurd (let bad : ⊥ = cc in bad)
free_by reads false s (entry.Module (Js m)) h = free_source reads s m h
free_by reads false s (entry.Module (Json m)) h = tt
free_by reads false s (entry.Module (Wasm m)) h = sym h
free_by reads false s (entry.Redirect target) h = tt
free_by reads false s (entry.Package held) h = tt
free_by reads false s entry.External h = tt
free_by reads false s (entry.Error fault) h = absurd (let bad : ⊥ = cc in bad)

pub is_free_entry : (v : Setting) (s : Specifier) (e : Entry) → entry_of (entries_of v) s ≡ Some e → IsFree v.reads s e
is_free_entry v s e at =
    let one = found (Causeless v.reads) (entries_of v) s e (all_causeless v.reads (entries_of v) v.passes.all) at in
    subst (λ (r : Specifier). IsFree v.reads r e) (sym one.1)
    (free_by v.reads (has_scheme (codes "data") one.0) (text_of one.0) e one.2)

-- ---- all edges fit

-- the edge stays as it is
pub record Fits (rules : Rules) (answers : Answers) (m : Module) (d : Dependency) : Type 0 where
  pub attribute : IsMisfit rules answers m d → ⊥
  pub phase : IsPhaseMisfit rules answers m d → ⊥

or_none : {A : Type 0} (a b : Option A) → option_or a b ≡ None → (a ≡ None) × (b ≡ None)
or_none None b e = (refl, e)
or_none (Some x) b e = absurd (let bad : ⊥ = cc in bad)

pub first_free : (d : Dependency) (ds : List Dependency) → edges_cause (d ∷ ds) ≡ None
    → (edge_cause d.resolution d.kind ≡ None) × (edges_cause ds ≡ None)
first_free d ds e = or_none (edge_cause d.resolution d.kind) (edges_cause ds) e

refused_causes : (why : ResolutionError) (d made : Dependency) → made ≡ refused_edge why d
    → edge_cause made.resolution made.kind ≡ None → ⊥
refused_causes why d made is none =
    let P : Dependency → Type 0 = λ x. edge_cause x.resolution x.kind ≡ None in
    let bad = subst P is none in cc

edge_fits : (rules : Rules) (answers : Answers) (m : Module) (d made : Dependency) → IsFinalEdge rules answers m d made
    → edge_cause made.resolution made.kind ≡ None → (d ≡ made) × Fits rules answers m made
edge_fits rules answers m d made (misfit amiss is) none = absurd (refused_causes _ d made is none)
edge_fits rules answers m d made (phase_misfit suits amiss is) none = absurd (refused_causes _ d made is none)
edge_fits rules answers m d made (fit suits also is) none = (
  sym is,
  subst (λ (x : Dependency). Fits rules answers m x) (sym is) (record { attribute = suits; phase = also }),
)

pub edges_fit : (rules : Rules) (answers : Answers) (m : Module) (ds made : List Dependency)
    → AreFinalEdges rules answers m ds made → edges_cause made ≡ None
    → (ds ≡ made) × AllByRecursion (Fits rules answers m) made
edges_fit rules answers m [] [] h none = (refl, tt)
edges_fit rules answers m [] (x ∷ made) h none = absurd h
edges_fit rules answers m (d ∷ ds) [] h none = absurd h
edges_fit rules answers m (d ∷ ds) (x ∷ made) h none =
    let free = first_free x made none in
    let here = edge_fits rules answers m d x h.0 free.0 in
    let rest = edges_fit rules answers m ds made h.1 free.1 in (
      ap (λ (y : Dependency). y ∷ ds) here.0 ∙ ap (λ (ys : List Dependency). x ∷ ys) rest.0,
      (here.1, rest.1),
    )

-- what a final entry without a cause is of its first one
pub record Known (rules : Rules) (answers : Answers) (s : Specifier) (e : Entry) : Type 0 where
  pub first : IsEntry rules answers s e
  pub edges : (m : Module) → e ≡ entry.Module m → AllByRecursion (Fits rules answers m) (edges_of m)

abbrev NoModule : Entry → Type 0
NoModule e = (m : Module) → e ≡ entry.Module m → ⊥

known_plain : (rules : Rules) (answers : Answers) (s : Specifier) (e : Entry) → IsEntry rules answers s e → NoModule e
    → Known rules answers s e
known_plain rules answers s e is none = record { first = is; edges = λ m same. absurd (none m same) }

same_edges : (m : Module) (edges : List Dependency) → edges_of m ≡ edges → with_edges m edges ≡ m
same_edges m edges e = subst (λ (ds : List Dependency). with_edges m ds ≡ m) e (own_edges m)
  where
    own_edges : (n : Module) → with_edges n (edges_of n) ≡ n
    own_edges (Js n) = refl
    own_edges (Json n) = refl
    own_edges (Wasm n) = refl

same_module : (m n : Module) → entry.Module m ≡ entry.Module n → m ≡ n
same_module m n e = cc

-- a module whose edges have become these, without a cause
module_known : (rules : Rules) (answers : Answers) (s : Specifier) (first : Module) (edges : List Dependency)
    (e : Entry)
    → IsEntry rules answers s (entry.Module first) → AreFinalEdges rules answers first (edges_of first) edges
    → edges_cause edges ≡ None → e ≡ entry.Module (with_edges first edges) → Known rules answers s e
module_known rules answers s first edges e is are none made =
    let fits = edges_fit rules answers first (edges_of first) edges are none in
    let whole : with_edges first edges ≡ first = same_edges first edges fits.0 in
    let is_e : entry.Module first ≡ e = sym (made ∙ ap (λ (m : Module). entry.Module m) whole) in
    record {
      first = subst (IsEntry rules answers s) is_e is;
      edges = λ m here.
          let one : first ≡ m = same_module first m (is_e ∙ here) in
          subst (λ (n : Module). AllByRecursion (Fits rules answers n) (edges_of n)) one
          (subst (λ (ds : List Dependency). AllByRecursion (Fits rules answers first) ds) (sym fits.0) fits.1);
    }

-- the edges of a module that is made without a cause have none
no_cause : (reads : Reading) (s : Specifier) (first : Module) (edges : List Dependency) (rules : Rules)
    (answers : Answers) → AreFinalEdges rules answers first (edges_of first) edges
    → IsFree reads s (entry.Module (with_edges first edges)) → edges_cause edges ≡ None
no_cause reads s (Js m) edges rules answers are free = free.1
no_cause reads s (Json m) [] rules answers are free = refl
no_cause reads s (Json m) (d ∷ ds) rules answers are free = absurd are
no_cause reads s (Wasm m) edges rules answers are free = free

known_by : (rules : Rules) (answers : Answers) (reads : Reading) (s : Specifier) (e : Entry) → IsFinal rules answers s e
    → IsFree reads s e → Known rules answers s e
known_by rules answers reads s e (redirect target is last leads stays made) free =
    subst (Known rules answers s) (sym made) (known_plain rules answers s (entry.Redirect target) is
    (λ m here. let bad : ⊥ = cc in bad))
known_by rules answers reads s e (too_far target is far made) free = absurd (subst (IsFree reads s) made free)
known_by rules answers reads s e (with_module first is edges are made) free =
    module_known rules answers s first edges e is are
    (no_cause reads s first edges rules answers are (subst (IsFree reads s) made free)) made
known_by rules answers reads s e (same first is stays plain made) free =
    subst (Known rules answers s) (sym made) (known_plain rules answers s first is
    (λ m here. let bad = ap is_module here in cc))

pub known : (v : Setting) (s : Specifier) (e : Entry) → entry_of (entries_of v) s ≡ Some e
    → Known (old_rules v) v.answers s e
known v s e at =
    known_by (old_rules v) v.answers v.reads s e (v.old.each s e at) (is_free_entry v s e at)

-- ---- where redirects lead

pub old_once : (v : Setting) → IsFunctional (old_rules v)
old_once v = analysed_by_once v.ways v.once

abbrev pub Reaches : Setting → Specifier → Type 0
Reaches v s = IsReached (old_rules v) (texts v.graph.roots) v.answers s

-- what is reached has an entry
pub record Held (v : Setting) (s : Specifier) : Type 0 where
  pub entry : Entry
  pub at : entry_of (entries_of v) s ≡ Some entry

pub held_at : (v : Setting) (s : Specifier) → Reaches v s → Held v s
held_at v s reached = by (entry_of (entries_of v) s) refl
  where
    by : (o : Option Entry) → entry_of (entries_of v) s ≡ o → Held v s
    by None e =
        let there : is_some (entry_of (entries_of v) s) ≡ true =
        sym (has-keys_at (entries_of v) s) ∙ v.old.members.all s reached in
        let nothing = ap is_some e in absurd (let bad : ⊥ = cc in bad)
    by (Some x) e = record { entry = x; at = e }

pub reached_at : (v : Setting) (s : Specifier) (e : Entry) → entry_of (entries_of v) s ≡ Some e → Reaches v s
reached_at v s e at = v.old.members.reached s (has-keys_at (entries_of v) s ∙ ap is_some at)

-- the first entry of a specifier is the one that the graph has
pub only_entry : (v : Setting) (s : Specifier) (e first : Entry) → entry_of (entries_of v) s ≡ Some e
    → IsEntry (old_rules v) v.answers s first → e ≡ first
only_entry v s e first at is =
    entry_once (old_rules v) (old_once v) v.answers s e first (known v s e at).first is

-- an entry that is no redirect is where it is resolved to
no_way : (e : Entry) → is_redirect e ≡ false → redirect_of e ≡ None
no_way (entry.Redirect target) h = absurd (let bad : ⊥ = cc in bad)
no_way (entry.Module m) h = refl
no_way (entry.Package held) h = refl
no_way entry.External h = refl
no_way (entry.Error e) h = refl

pub stays_over : (entries : Entries) (n : ℕ) (s : Specifier) (e : Entry) → entry_of entries s ≡ Some e
    → is_redirect e ≡ false → resolved_over entries n s ≡ s
stays_over entries zero s e at stays = refl
stays_over entries (suc n) s e at stays =
    let none : redirected entries s ≡ None = ap (option_and_then redirect_of) at ∙ no_way e stays in
    ap (on_from s (resolved_over entries n)) none

-- where a reached specifier redirects to is reached
pub redirect_reached : (v : Setting) (s : Specifier) (next : Parts) → Reaches v s
    → IsEntry (old_rules v) v.answers s (entry.Redirect next) → Reaches v (text_of next)
unfolding targets
redirect_reached v s next reached is =
    reached_on (old_rules v) (texts v.graph.roots) v.answers s (text_of next) reached (record {
      entry = entry.Redirect next;
      is_entry = is;
      among = ap (λ (b : Bool). b || false) (nat_list_eq_equiv.refl (text_of next));
    })

-- so many redirects lead to an entry
pub along : (v : Setting) (n k : ℕ) (s end : Specifier) (last : Entry) → k ≤ n → Reaches v s
    → Redirects (old_rules v) v.answers k s end → IsEntry (old_rules v) v.answers end last → is_redirect last ≡ false
    → (resolved_over (entries_of v) n s ≡ end) × (entry_of (entries_of v) end ≡ Some last)
along v n zero s end last few reached way is stays =
    let here = held_at v s reached in
    let first : IsEntry (old_rules v) v.answers s last =
    subst (λ (r : Specifier). IsEntry (old_rules v) v.answers r last) (sym way) is in
    let one : here.entry ≡ last = only_entry v s here.entry last here.at first in
    let at : entry_of (entries_of v) s ≡ Some last = here.at ∙ ap Some one in (
      stays_over (entries_of v) n s last at stays ∙ way,
      subst (λ (r : Specifier). entry_of (entries_of v) r ≡ Some last) way at,
    )
along v zero (suc k) s end last few reached way is stays = absurd (let bad : ⊥ = omega (arith, few) in bad)
along v (suc n) (suc k) s end last few reached way is stays =
    let here = held_at v s reached in
    let one : here.entry ≡ entry.Redirect way.0 = only_entry v s here.entry (entry.Redirect way.0) here.at way.1 in
    let at : entry_of (entries_of v) s ≡ Some (entry.Redirect way.0) = here.at ∙ ap Some one in
    let on : redirected (entries_of v) s ≡ Some (text_of way.0) = ap (option_and_then redirect_of) at in
    let next = redirect_reached v s way.0 reached way.1 in
    let rest = along v n k (text_of way.0) end last (omega (arith, few)) next way.2 is stays in
    (ap (on_from s (resolved_over (entries_of v) n)) on ∙ rest.0, rest.1)

-- where a reached specifier is resolved to
pub record Led (v : Setting) (s : Specifier) : Type 0 where
  pub end : Specifier
  pub last : Entry
  pub resolved_to : resolved (entries_of v) s ≡ end
  pub at : entry_of (entries_of v) end ≡ Some last
  pub stays : is_redirect last ≡ false
  pub leads : LeadsTo (old_rules v) v.answers s last

led_by : (v : Setting) (s : Specifier) (e last : Entry) → Reaches v s → LeadsTo (old_rules v) v.answers s last
    → is_redirect last ≡ false → Led v s
led_by v s e last reached leads stays =
    let on = along v most_redirects leads.steps s leads.end last leads.few reached leads.way leads.is_entry stays in
    record { end = leads.end; last = last; resolved_to = on.0; at = on.1; stays = stays; leads = leads }

led_here : (v : Setting) (s : Specifier) (e : Entry) → Reaches v s → entry_of (entries_of v) s ≡ Some e
    → is_redirect e ≡ false → Led v s
led_here v s e reached at stays =
    led_by v s e e reached
    (record { steps = zero; few = omega arith; end = s; way = refl; is_entry = (known v s e at).first }) stays

pub led : (v : Setting) (s : Specifier) → Reaches v s → Led v s
led v s reached =
    let here = held_at v s reached in by here.entry here.at (v.old.each s here.entry here.at)
  where
    by : (e : Entry) → entry_of (entries_of v) s ≡ Some e → IsFinal (old_rules v) v.answers s e → Led v s
    by e at (redirect target is last leads stays made) = led_by v s e last reached leads stays
    by e at (too_far target is far made) = absurd (subst (IsFree v.reads s) made (is_free_entry v s e at))
    by e at (with_module first is edges are made) = led_here v s e reached at (ap is_redirect made)
    by e at (same first is stays plain made) = led_here v s e reached at (ap is_redirect made ∙ stays)

-- an entry that is no redirect is resolved to itself
pub resolved_here : (v : Setting) (s : Specifier) (e : Entry) → entry_of (entries_of v) s ≡ Some e
    → is_redirect e ≡ false → resolved (entries_of v) s ≡ s
resolved_here v s e at stays = stays_over (entries_of v) most_redirects s e at stays
