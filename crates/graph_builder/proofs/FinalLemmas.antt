-- What first entries become is the entries of the graph.
use Rattle.std.proofs.Common.{zero, suc, ◌≡◌, ◌≤◌, ◌<◌, ◌+◌, ◌-◌, ℕ, Bool, true, false, List, [], ◌∷◌, map, refl, sym, ◌∙◌, ap, subst, arith, Option, Some, None}
use Rattle.std.specs.Prelude.{bytes_eq, is_some, All, not, ◌&&◌, ◌||◌, option_map, option_and_then, Ok, Err, if◌then◌else◌}
use Rattle.std.specs.List.{filter_map, cons_option}
use Rattle.std.specs.Cmp.Lexicographic.{nat_list_eq_equiv}
use Rattle.std.proofs.lemmas.List.Elements.{All-nil, All-cons, All-head, All-tail}
use Rattle.std.proofs.lemmas.Map.Made.{lookup-map_values}
use Rattle.url.specs.Parts.{Parts}
use Rattle.graph_entry.specs.Specifier.{text_of}
use Rattle.graph_entry.specs.Resolution.{Resolved}
use Rattle.graph_entry.specs.declared.resolution.ResolutionError.{ResolutionError}
use Rattle.graph_entry.specs.declared.entry.Dependency.{Dependency}
use Rattle.graph_entry.specs.declared.entry.Module.{Module}
use Rattle.graph_entry.specs.declared.entry.Module.TheVariants.{Js, Json, Wasm}
use Rattle.graph_entry.specs.Entry.{CutsFrom, CutsName, EdgesCut}
use Rattle.graph_entry.specs.declared.entry.ModuleError.TheVariants.{TooManyRedirects}
use Rattle.graph_entry.specs.declared.entry.Entry.{Entry}
use Rattle.graph_entry.specs.declared.entry.Entry.TheVariants as entry
use Rattle.graph_builder.specs.Rules.{targets, edges_of, led_to}
use Rattle.graph_builder.specs.Reach.{Specifier, Answers, Rules, has, IsFunctional, IsEntry, IsReached, IsReach}
use Rattle.graph_builder.specs.Final.{Redirects, most_redirects, redirect_of, is_redirect, LeadsTo, fits_by, fits_phase, LeadsAmiss, refused_edge, IsFinalEdge, misfit, phase_misfit, fit, AreFinalEdges, with_edges, IsFinal, redirect, too_far, with_module, same}
use Rattle.graph_builder.specs.Graph.{members_of, entry_of, redirected, on_from, resolved_over, resolved, module_of, module_at, IsAscending, IsGraph}
use Rattle.graph_builder.specs.Settling as settling
use Rattle.graph_builder.specs.Settling.{led, unfit_at, settled_edge, settled, finals_of}
use Rattle.graph_builder.specs.declared.settle.Unfit.TheVariants.{ForAttribute, ForPhase}
use Rattle.graph_builder.proofs.ReachLemmas.{reached_on, entry_once}
use Rattle.graph_builder.proofs.SlotsLemmas.{has_one}
use Rattle.graph_builder.proofs.ByTextLemmas.{has-keys_at, distinct_sorted}

-- a redirect leads to where it says
pub redirect_leads : (rules : Rules) (next : Parts) → has (targets rules (entry.Redirect next)) (text_of next) ≡ true
unfolding targets
redirect_leads rules next = has_one (text_of next) (text_of next) ∙ nat_list_eq_equiv.refl (text_of next)

-- where a reached specifier redirects to is reached
pub redirect_reached : (rules : Rules) (starts : List Specifier) (answers : Answers) (s : Specifier) (next : Parts)
    → IsReached rules starts answers s → IsEntry rules answers s (entry.Redirect next)
    → IsReached rules starts answers (text_of next)
redirect_reached rules starts answers s next reached is_entry =
    reached_on rules starts answers s (text_of next) reached
    (record { entry = entry.Redirect next; is_entry = is_entry; among = redirect_leads rules next })

-- a final entry comes of a first one
pub first_of : (rules : Rules) (answers : Answers) (s : Specifier) (made : Entry) → IsFinal rules answers s made
    → (first : Entry) × IsEntry rules answers s first
first_of rules answers s made (redirect target is_entry last leads stays is) = (entry.Redirect target, is_entry)
first_of rules answers s made (too_far target is_entry far is) = (entry.Redirect target, is_entry)
first_of rules answers s made (with_module first is_entry edges are is) = (entry.Module first, is_entry)
first_of rules answers s made (same first is_entry stays plain is) = (first, is_entry)

or_right : (a b : Bool) → b ≡ true → (a || b) ≡ true
or_right true b h = refl
or_right false b h = h

some_same : {A : Type 0} (x y : A) → Some x ≡ Some y → x ≡ y
some_same x y h = cc

-- following redirects ends before so many steps
record EndsBefore (rules : Rules) (answers : Answers) (n : ℕ) (s : Specifier) : Type 0 where
  steps : ℕ
  few : steps < n
  end : Specifier
  way : Redirects rules answers steps s end
  last : Entry
  is_entry : IsEntry rules answers end last
  stays : is_redirect last ≡ false

-- the specifiers stay what they are
members_finals : (g : Entry → Entry) (es : List (Parts × Entry))
    → members_of (map (λ e. (e.0, g e.1)) es) ≡ members_of es
members_finals g [] = refl
members_finals g (e ∷ es) = rw (members_finals g es) refl

ok_same : (r : Resolved) (x y : Parts) → r ≡ Ok x → r ≡ Ok y → x ≡ y
ok_same r x y h g = cc

-- where a module's followed edge leads is among its targets
pub among_targets : (rules : Rules) (m : Module) (t : Specifier)
    → has (filter_map (led_to (rules.follows m)) (edges_of m)) t ≡ true
    → has (targets rules (entry.Module m)) t ≡ true
unfolding targets
among_targets rules m t h = h

-- the target of the first edge, if it's followed
led_first : (rules : Rules) (m : Module) (d : Dependency) (ds : List Dependency) (target : Parts)
    → d.resolution ≡ Ok target → rules.follows m d ≡ true
    → has (filter_map (led_to (rules.follows m)) (d ∷ ds)) (text_of target) ≡ true
led_first rules m d ds target r f = rw (f, r, nat_list_eq_equiv.refl (text_of target)) refl

-- and those of the others
led_later : (rules : Rules) (m : Module) (d : Dependency) (ds : List Dependency) (t : Specifier)
    → has (filter_map (led_to (rules.follows m)) ds) t ≡ true
    → has (filter_map (led_to (rules.follows m)) (d ∷ ds)) t ≡ true
led_later rules m d ds t h = by (led_to (rules.follows m) d)
  where
    by : (o : Option Specifier) → has (cons_option o (filter_map (led_to (rules.follows m)) ds)) t ≡ true
    by None = h
    by (Some u) = or_right (bytes_eq t u) (has (filter_map (led_to (rules.follows m)) ds) t) h

-- ---- over the first entries of all that is reached

module _ (rules : Rules) (starts : List Specifier) (answers : Answers) (firsts : List (Parts × Entry))
    (reach : IsReach rules starts answers (members_of firsts))
    (once : IsFunctional rules)
    (each : (s : Specifier) (e : Entry) → entry_of firsts s ≡ Some e → IsEntry rules answers s e) where
  -- where a specifier redirects to has an entry too
  closed : (s : Specifier) (next : Parts) → entry_of firsts s ≡ Some (entry.Redirect next)
      → entry_of firsts (text_of next) ≡ None → ⊥
  closed s next e none =
      let here : has (members_of firsts) s ≡ true = has-keys_at firsts s ∙ ap is_some e in
      let on = redirect_reached rules starts answers s next (reach.reached s here) (each s (entry.Redirect next) e) in
      let there : is_some (entry_of firsts (text_of next)) ≡ true =
      sym (has-keys_at firsts (text_of next)) ∙ reach.all (text_of next) on in
      let nothing = ap is_some none in cc

  -- a step is a redirect
  step_entry : (s t : Specifier) (f : Entry) → entry_of firsts s ≡ Some f → redirect_of f ≡ Some t
      → (next : Parts) × IsEntry rules answers s (entry.Redirect next) × (text_of next ≡ t)
  step_entry s t (entry.Redirect next) e h = (next, each s (entry.Redirect next) e, some_same (text_of next) t h)
  step_entry s t (entry.Module m) e h = absurd cc
  step_entry s t (entry.Package held) e h = absurd cc
  step_entry s t entry.External e h = absurd cc
  step_entry s t (entry.Error error) e h = absurd cc

  redirect_entry : (s t : Specifier) (o : Option Entry) → entry_of firsts s ≡ o → option_and_then redirect_of o ≡ Some t
      → (next : Parts) × IsEntry rules answers s (entry.Redirect next) × (text_of next ≡ t)
  redirect_entry s t None e h = absurd cc
  redirect_entry s t (Some f) e h = step_entry s t f e h

  -- so many steps are so many redirects
  led_redirects : (n : ℕ) (s t : Specifier) → led (redirected firsts) n s ≡ Some t → Redirects rules answers n s t
  led_redirects zero s t h = some_same s t h
  led_redirects (suc n) s t h = by (λ u. led_redirects n u t) (redirected firsts s) refl h
    where
      by : ((u : Specifier) → led (redirected firsts) n u ≡ Some t → Redirects rules answers n u t)
          → (o : Option Specifier) → redirected firsts s ≡ o → option_and_then (led (redirected firsts) n) o ≡ Some t
          → Redirects rules answers (suc n) s t
      by later None e h = absurd cc
      by later (Some u) e h =
          let r = redirect_entry s u (entry_of firsts s) refl e in
          (r.0, r.1, subst (λ (v : Specifier). Redirects rules answers n v t) (sym r.2) (later u h))

  -- where fewer steps lead on, following ends
  ends_before : (n : ℕ) (s : Specifier) → (entry_of firsts s ≡ None → ⊥) → led (redirected firsts) n s ≡ None
      → EndsBefore rules answers n s
  ends_before zero s there h = absurd cc
  ends_before (suc n) s there h = by (ends_before n) (entry_of firsts s) refl
    where
      here : (f : Entry) → entry_of firsts s ≡ Some f → is_redirect f ≡ false → EndsBefore rules answers (suc n) s
      here f e stays = record {
        steps = 0;
        few = omega arith;
        end = s;
        way = refl;
        last = f;
        is_entry = each s f e;
        stays = stays;
      }

      from : ((u : Specifier) → (entry_of firsts u ≡ None → ⊥) → led (redirected firsts) n u ≡ None
          → EndsBefore rules answers n u)
          → (f : Entry) → entry_of firsts s ≡ Some f → EndsBefore rules answers (suc n) s
      from later (entry.Redirect next) e =
          let rest : led (redirected firsts) n (text_of next) ≡ None =
          sym (ap (λ (o : Option Entry). option_and_then (led (redirected firsts) n) (option_and_then redirect_of o))
          e) ∙ h in
          let more = later (text_of next) (closed s next e) rest in record {
            steps = suc more.steps;
            few = omega (arith, more.few);
            end = more.end;
            way = (next, each s (entry.Redirect next) e, more.way);
            last = more.last;
            is_entry = more.is_entry;
            stays = more.stays;
          }
      from later (entry.Module m) e = here (entry.Module m) e refl
      from later (entry.Package held) e = here (entry.Package held) e refl
      from later entry.External e = here entry.External e refl
      from later (entry.Error error) e = here (entry.Error error) e refl

      by : ((u : Specifier) → (entry_of firsts u ≡ None → ⊥) → led (redirected firsts) n u ≡ None
          → EndsBefore rules answers n u)
          → (o : Option Entry) → entry_of firsts s ≡ o → EndsBefore rules answers (suc n) s
      by later None e = absurd (there e)
      by later (Some f) e = from later f e

  -- what a first entry becomes is the entry of the graph
  final_redirect : (s : Specifier) (target : Parts) → entry_of firsts s ≡ Some (entry.Redirect target)
      → (o : Option Specifier) → led (redirected firsts) most_redirects (text_of target) ≡ o
      → IsFinal rules answers s (if is_some o then entry.Error (TooManyRedirects target) else entry.Redirect target)
  final_redirect s target e (Some t) d =
      let is_entry = each s (entry.Redirect target) e in
      too_far target is_entry (t, (target, is_entry, led_redirects most_redirects (text_of target) t d)) refl
  final_redirect s target e None d =
      let is_entry = each s (entry.Redirect target) e in
      let rest = ends_before most_redirects (text_of target) (closed s target e) d in
      redirect target is_entry rest.last (record {
        steps = suc rest.steps;
        few = omega (arith, rest.few);
        end = rest.end;
        way = (target, is_entry, rest.way);
        is_entry = rest.is_entry;
      }) rest.stays refl

  -- ---- attributes

  -- what doesn't redirect leads nowhere else
  resolved_here : (n : ℕ) (s : Specifier) (f : Entry) → entry_of firsts s ≡ Some f → redirect_of f ≡ None
      → resolved_over firsts n s ≡ s
  resolved_here zero s f e none = refl
  resolved_here (suc n) s f e none =
      ap (λ (o : Option Entry). on_from s (resolved_over firsts n) (option_and_then redirect_of o)) e
      ∙ ap (on_from s (resolved_over firsts n)) none

  -- whatever is reached has a first entry, which is its entry
  first_is : (s : Specifier) (e : Entry) → IsReached rules starts answers s → IsEntry rules answers s e
      → entry_of firsts s ≡ Some e
  first_is s e reached is_entry = by (entry_of firsts s) refl
    where
      by : (o : Option Entry) → entry_of firsts s ≡ o → entry_of firsts s ≡ Some e
      by None d =
          let there : is_some (entry_of firsts s) ≡ true = sym (has-keys_at firsts s) ∙ reach.all s reached in
          let nothing = ap is_some d in absurd cc
      by (Some f) d = d ∙ ap Some (entry_once rules once answers s f e (each s f d) is_entry)

  -- where the redirects from a specifier lead is led to by so many at most
  resolved_way : (n : ℕ) (s : Specifier) → (k : ℕ) × (k ≤ n) × Redirects rules answers k s (resolved_over firsts n s)
  resolved_way zero s = (0, omega arith, refl)
  resolved_way (suc n) s = by (resolved_way n) (redirected firsts s) refl
    where
      by : ((u : Specifier) → (k : ℕ) × (k ≤ n) × Redirects rules answers k u (resolved_over firsts n u))
          → (o : Option Specifier) → redirected firsts s ≡ o
          → (k : ℕ) × (k ≤ suc n) × Redirects rules answers k s (on_from s (resolved_over firsts n) o)
      by later None e = (0, omega arith, refl)
      by later (Some u) e =
          let r = redirect_entry s u (entry_of firsts s) refl e in
          let more = later u in (
            suc more.0,
            omega (arith, more.1),
            (
              r.0,
              r.1,
              subst (λ (v : Specifier). Redirects rules answers more.0 v (resolved_over firsts n u))
                  (sym r.2) more.2,
            ),
          )

  -- so the module that is found stands at their end
  module_found : (s : Specifier) (m : Module) → module_at firsts s ≡ Some m → LeadsTo rules answers s (entry.Module m)
  module_found s m h = by (entry_of firsts (resolved firsts s)) refl h
    where
      from : (f : Entry) → entry_of firsts (resolved firsts s) ≡ Some f → module_of f ≡ Some m
          → LeadsTo rules answers s (entry.Module m)
      from (entry.Module k) e h =
          let way = resolved_way most_redirects s in record {
            steps = way.0;
            few = way.1;
            end = resolved firsts s;
            way = way.2;
            is_entry = subst (λ (x : Module). IsEntry rules answers (resolved firsts s) (entry.Module x))
                (some_same k m h) (each (resolved firsts s) (entry.Module k) e);
          }
      from (entry.Redirect target) e h = absurd cc
      from (entry.Package held) e h = absurd cc
      from entry.External e h = absurd cc
      from (entry.Error error) e h = absurd cc

      by : (o : Option Entry) → entry_of firsts (resolved firsts s) ≡ o → option_and_then module_of o ≡ Some m
          → LeadsTo rules answers s (entry.Module m)
      by None e h = absurd cc
      by (Some f) e h = from f e h

  -- and the one that stands there is found
  resolved_there : (k n : ℕ) (s end : Specifier) (m : Module) → k ≤ n → IsReached rules starts answers s
      → Redirects rules answers k s end
      → IsEntry rules answers end (entry.Module m)
      → (resolved_over firsts n s ≡ end) × (entry_of firsts end ≡ Some (entry.Module m))
  resolved_there zero n s end m few reached way is_entry =
      let e : entry_of firsts s ≡ Some (entry.Module m) =
      first_is s (entry.Module m) reached
      (subst (λ (x : Specifier). IsEntry rules answers x (entry.Module m)) (sym way) is_entry) in
      (resolved_here n s (entry.Module m) e refl ∙ way, ap (entry_of firsts) (sym way) ∙ e)
  resolved_there (suc k) zero s end m few reached way is_entry = absurd (omega (arith, few))
  resolved_there (suc k) (suc n) s end m few reached way is_entry =
      let e : entry_of firsts s ≡ Some (entry.Redirect way.0) = first_is s (entry.Redirect way.0) reached way.1 in
      let more = resolved_there k n (text_of way.0) end m (omega (arith, few))
      (redirect_reached rules starts answers s way.0 reached way.1) way.2 is_entry in
      (ap (λ (o : Option Entry). on_from s (resolved_over firsts n) (option_and_then redirect_of o)) e ∙ more.0, more.1)

  -- a followed edge leads to the module that is found at its end, which isn't such a one
  amiss : (m : Module) (d : Dependency) (suits : Module → Bool) (target : Parts) (k : Module)
      → rules.follows m d ≡ true → d.resolution ≡ Ok target → module_at firsts (text_of target) ≡ Some k
      → suits k ≡ false → LeadsAmiss rules answers m d suits
  amiss m d suits target k f r e h = record {
    followed = f;
    target = target;
    resolved = r;
    found = k;
    leads = module_found (text_of target) k e;
    unfit = h;
  }

  -- what the edges of a module become
  edge_of : (m : Module) (d : Dependency)
      → ((target : Parts) → d.resolution ≡ Ok target → rules.follows m d ≡ true
      → IsReached rules starts answers (text_of target))
      → IsFinalEdge rules answers m d (settled_edge (settling.misfit rules firsts m d) d)
  edge_of m d reached = by (rules.follows m d) refl d.resolution refl
    where
      -- the module that it leads to is found
      there : (suits : Module → Bool) (x : LeadsAmiss rules answers m d suits)
          → module_at firsts (text_of x.target) ≡ Some x.found
      there suits x =
          let end = resolved_there x.leads.steps most_redirects (text_of x.target) x.leads.end x.found x.leads.few
          (reached x.target x.resolved x.followed) x.leads.way x.leads.is_entry in
          ap (λ (t : Specifier). option_and_then module_of (entry_of firsts t)) end.0
          ∙ ap (option_and_then module_of) end.1

      -- it leads to no module, so nothing is amiss
      nothing : ((suits : Module → Bool) → LeadsAmiss rules answers m d suits → ⊥) → IsFinalEdge rules answers m d d
      nothing none = fit (none (fits_by rules.json_without_attribute d.attribute)) (none (fits_phase d.kind)) refl

      -- the one that it leads to is such a one
      well : (suits : Module → Bool) (target : Parts) (k : Module) → d.resolution ≡ Ok target
          → module_at firsts (text_of target) ≡ Some k → suits k ≡ true → LeadsAmiss rules answers m d suits → ⊥
      well suits target k r e h x =
          let same : x.target ≡ target = ok_same d.resolution x.target target x.resolved r in
          let one : x.found ≡ k = some_same x.found k
          (sym (there suits x) ∙ ap (λ (t : Parts). module_at firsts (text_of t)) same ∙ e) in
          let bad : true ≡ false = sym h ∙ ap suits (sym one) ∙ x.unfit in
          cc

      here : (target : Parts) (k : Module) → rules.follows m d ≡ true → d.resolution ≡ Ok target
          → module_at firsts (text_of target) ≡ Some k
          → (a : Bool) → fits_by rules.json_without_attribute d.attribute k ≡ a
          → (b : Bool) → fits_phase d.kind k ≡ b
          → IsFinalEdge rules answers m d
          (settled_edge (if not a then Some ForAttribute else if not b then Some ForPhase else None) d)
      here target k f r e false u b v =
          misfit (amiss m d (fits_by rules.json_without_attribute d.attribute) target k f r e u) refl
      here target k f r e true u false v =
          phase_misfit (well (fits_by rules.json_without_attribute d.attribute) target k r e u)
          (amiss m d (fits_phase d.kind) target k f r e v) refl
      here target k f r e true u true v =
          fit (well (fits_by rules.json_without_attribute d.attribute) target k r e u)
          (well (fits_phase d.kind) target k r e v) refl

      at : (target : Parts) (o : Option Module) → rules.follows m d ≡ true → d.resolution ≡ Ok target
          → module_at firsts (text_of target) ≡ o
          → IsFinalEdge rules answers m d (settled_edge (settling.unfit rules.json_without_attribute d o) d)
      at target None f r e =
          nothing (λ suits x.
          let same : x.target ≡ target = ok_same d.resolution x.target target x.resolved r in
          let bad : Some x.found ≡ None =
          sym (there suits x) ∙ ap (λ (t : Parts). module_at firsts (text_of t)) same ∙ e in
          cc)
      at target (Some k) f r e =
          here target k f r e (fits_by rules.json_without_attribute d.attribute k) refl (fits_phase d.kind k) refl

      by : (b : Bool) → rules.follows m d ≡ b → (r : Resolved) → d.resolution ≡ r
          → IsFinalEdge rules answers m d
          (settled_edge (if b then unfit_at rules.json_without_attribute firsts d r else None) d)
      by true f (Ok target) r = at target (module_at firsts (text_of target)) f r refl
      by true f (Err e) r = nothing (λ suits x. let bad = sym x.resolved ∙ r in cc)
      by false f r e = nothing (λ suits x. let bad : true ≡ false = sym x.followed ∙ f in cc)

  edges_final : (m : Module) (ds : List Dependency)
      → ((t : Specifier) → has (filter_map (led_to (rules.follows m)) ds) t ≡ true → IsReached rules starts answers t)
      → AreFinalEdges rules answers m ds (map (λ d. settled_edge (settling.misfit rules firsts m d) d) ds)
  edges_final m [] reached = tt
  edges_final m (d ∷ ds) reached = (
    edge_of m d (λ target r f. reached (text_of target) (led_first rules m d ds target r f)),
    edges_final m ds (λ t h. reached t (led_later rules m d ds t h)),
  )

  final_of : (s : Specifier) (f : Entry) → entry_of firsts s ≡ Some f → IsFinal rules answers s (settled rules firsts f)
  final_of s (entry.Redirect target) e =
      final_redirect s target e (led (redirected firsts) most_redirects (text_of target)) refl
  final_of s (entry.Module m) e =
      let here : has (members_of firsts) s ≡ true = has-keys_at firsts s ∙ ap is_some e in
      let is_entry = each s (entry.Module m) e in
      with_module m is_entry (map (λ d. settled_edge (settling.misfit rules firsts m d) d) (edges_of m))
      (edges_final m (edges_of m) (λ t h. reached_on rules starts answers s t (reach.reached s here)
      (record { entry = entry.Module m; is_entry = is_entry; among = among_targets rules m t h })))
      refl
  final_of s (entry.Package held) e = same (entry.Package held) (each s (entry.Package held) e) refl refl refl
  final_of s entry.External e = same entry.External (each s entry.External e) refl refl refl
  final_of s (entry.Error error) e = same (entry.Error error) (each s (entry.Error error) e) refl refl refl

  -- the graph
  -- the graph has them in the order of bytes
  pub graph_settled : (entries : List (Parts × Entry)) → IsAscending entries
      → ((t : Specifier) → entry_of entries t ≡ entry_of (finals_of rules firsts) t)
      → IsGraph rules starts answers entries
  graph_settled entries ascending alike = record {
    ascending = ascending;
    members = record {
      once = distinct_sorted (members_of entries) ascending;
      reached = λ t h. reach.reached t (sym (alike_keys t) ∙ h);
      all = λ t r. alike_keys t ∙ reach.all t r;
    };
    each = λ s e h. by s e (entry_of firsts s) refl
        (sym (lookup-map_values (settled rules firsts) (λ url. bytes_eq s (text_of url)) firsts) ∙ sym (alike s) ∙ h);
  }
    where
      -- the graph has an entry of what has a first one
      alike_keys : (t : Specifier) → has (members_of entries) t ≡ has (members_of firsts) t
      alike_keys t = has-keys_at entries t ∙ ap is_some (alike t) ∙ sym (has-keys_at (finals_of rules firsts) t)
          ∙ ap (λ (ts : List Specifier). has ts t) (members_finals (settled rules firsts) firsts)

      by : (s : Specifier) (e : Entry) (o : Option Entry) → entry_of firsts s ≡ o
          → option_map (settled rules firsts) o ≡ Some e → IsFinal rules answers s e
      by s e None d h = absurd cc
      by s e (Some f) d h =
          subst (IsFinal rules answers s) (some_same (settled rules firsts f) e h) (final_of s f d)

-- ---- the edges keep their places

-- a fact of an edge that its refusal keeps is one of what the edges become
all_final : (rules : Rules) (answers : Answers) (m : Module) (P : Dependency → Type 0)
    → ((why : ResolutionError) (d : Dependency) → P d → P (refused_edge why d))
    → (ds es : List Dependency) → All P ds → AreFinalEdges rules answers m ds es → All P es
all_final rules answers m P keeps [] [] all are = All-nil P
all_final rules answers m P keeps (d ∷ ds) (e ∷ es) all are =
    All-cons P e es (one are.0) (all_final rules answers m P keeps ds es (All-tail P d ds all) are.1)
  where
    one : IsFinalEdge rules answers m d e → P e
    one (misfit x is) = subst P (sym is) (keeps _ d (All-head P d ds all))
    one (phase_misfit none x is) = subst P (sym is) (keeps _ d (All-head P d ds all))
    one (fit none nothing is) = subst P (sym is) (All-head P d ds all)
all_final rules answers m P keeps [] (e ∷ es) all are = absurd are
all_final rules answers m P keeps (d ∷ ds) [] all are = absurd are

-- they cut what they cut
pub final_cuts : (rules : Rules) (answers : Answers) (m : Module) (edges : List Dependency) → EdgesCut (entry.Module m)
    → AreFinalEdges rules answers m (edges_of m) edges → EdgesCut (entry.Module (with_edges m edges))
final_cuts rules answers (Js m) edges cuts are =
    all_final rules answers (Js m) (CutsFrom m.text) (λ why d h. h) m.dependencies edges cuts are
final_cuts rules answers (Json m) edges cuts are = tt
final_cuts rules answers (Wasm m) edges cuts are =
    all_final rules answers (Wasm m) (CutsName m.bytes) (λ why d h. h) m.dependencies edges cuts are

-- ---- what the code gives

-- one step more of those that are left
pub led_step : (next : Specifier → Option Specifier) (most i : ℕ) (at : Specifier) → i < most
    → led next (most - i) at ≡ option_and_then (led next (most - (i + 1))) (next at)
led_step next most i at within = ap (λ (n : ℕ). led next n at) (count within)
  where
    count : i < most → most - i ≡ suc (most - (i + 1))
    count h = omega arith

-- ---- over answers that agree

module _ (rules : Rules) (starts : List Specifier) (few many : Answers)
    (agrees : (s : Specifier) (e : Entry) → IsReached rules starts few s → IsEntry rules few s e
    → IsEntry rules many s e)
    (back : (s : Specifier) (e : Entry) → IsReached rules starts few s → IsEntry rules many s e
    → IsEntry rules few s e) where
  -- redirects of what is reached
  redirects_agree : (n : ℕ) (s t : Specifier) → IsReached rules starts few s → Redirects rules few n s t
      → Redirects rules many n s t × IsReached rules starts few t
  redirects_agree zero s t p is = (is, subst (IsReached rules starts few) is p)
  redirects_agree (suc n) s t p r =
      let more = redirects_agree n (text_of r.0) t (redirect_reached rules starts few s r.0 p r.1) r.2 in
      ((r.0, agrees s (entry.Redirect r.0) p r.1, more.0), more.1)

  redirects_back : (n : ℕ) (s t : Specifier) → IsReached rules starts few s → Redirects rules many n s t
      → Redirects rules few n s t × IsReached rules starts few t
  redirects_back zero s t p is = (is, subst (IsReached rules starts few) is p)
  redirects_back (suc n) s t p r =
      let first = back s (entry.Redirect r.0) p r.1 in
      let more = redirects_back n (text_of r.0) t (redirect_reached rules starts few s r.0 p first) r.2 in
      ((r.0, first, more.0), more.1)

  leads_agree : (s : Specifier) (e : Entry) → IsReached rules starts few s → LeadsTo rules few s e
      → LeadsTo rules many s e
  leads_agree s e p l =
      let way = redirects_agree l.steps s l.end p l.way in
      record { steps = l.steps; few = l.few; end = l.end; way = way.0; is_entry = agrees l.end e way.1 l.is_entry }

  leads_back : (s : Specifier) (e : Entry) → IsReached rules starts few s → LeadsTo rules many s e
      → LeadsTo rules few s e
  leads_back s e p l =
      let way = redirects_back l.steps s l.end p l.way in
      record { steps = l.steps; few = l.few; end = l.end; way = way.0; is_entry = back l.end e way.1 l.is_entry }

  -- a misfit of one is one of the other, where the edge's target is reached
  misfit_agrees : (m : Module) (d : Dependency) (suits : Module → Bool)
      → ((target : Parts) → d.resolution ≡ Ok target → rules.follows m d ≡ true
      → IsReached rules starts few (text_of target))
      → LeadsAmiss rules few m d suits → LeadsAmiss rules many m d suits
  misfit_agrees m d suits reached x = record {
    followed = x.followed;
    target = x.target;
    resolved = x.resolved;
    found = x.found;
    leads = leads_agree (text_of x.target) (entry.Module x.found) (reached x.target x.resolved x.followed) x.leads;
    unfit = x.unfit;
  }

  misfit_back : (m : Module) (d : Dependency) (suits : Module → Bool)
      → ((target : Parts) → d.resolution ≡ Ok target → rules.follows m d ≡ true
      → IsReached rules starts few (text_of target))
      → LeadsAmiss rules many m d suits → LeadsAmiss rules few m d suits
  misfit_back m d suits reached x = record {
    followed = x.followed;
    target = x.target;
    resolved = x.resolved;
    found = x.found;
    leads = leads_back (text_of x.target) (entry.Module x.found) (reached x.target x.resolved x.followed) x.leads;
    unfit = x.unfit;
  }

  edge_agrees : (m : Module) (d made : Dependency)
      → ((target : Parts) → d.resolution ≡ Ok target → rules.follows m d ≡ true
      → IsReached rules starts few (text_of target))
      → IsFinalEdge rules few m d made → IsFinalEdge rules many m d made
  edge_agrees m d made reached (misfit x is) =
      misfit (misfit_agrees m d (fits_by rules.json_without_attribute d.attribute) reached x) is
  edge_agrees m d made reached (phase_misfit none x is) =
      phase_misfit (λ y. none (misfit_back m d (fits_by rules.json_without_attribute d.attribute) reached y))
      (misfit_agrees m d (fits_phase d.kind) reached x) is
  edge_agrees m d made reached (fit none nothing is) =
      fit (λ x. none (misfit_back m d (fits_by rules.json_without_attribute d.attribute) reached x))
      (λ x. nothing (misfit_back m d (fits_phase d.kind) reached x)) is

  edges_agree : (m : Module) (ds made : List Dependency)
      → ((t : Specifier) → has (filter_map (led_to (rules.follows m)) ds) t ≡ true → IsReached rules starts few t)
      → AreFinalEdges rules few m ds made → AreFinalEdges rules many m ds made
  edges_agree m [] [] reached all = tt
  edges_agree m (d ∷ ds) (e ∷ es) reached all = (
    edge_agrees m d e (λ target r f. reached (text_of target) (led_first rules m d ds target r f)) all.0,
    edges_agree m ds es (λ t h. reached t (led_later rules m d ds t h)) all.1,
  )
  edges_agree m [] (e ∷ es) reached all = absurd all
  edges_agree m (d ∷ ds) [] reached all = absurd all

  -- the entry of the graph of what is reached
  pub final_agrees : (s : Specifier) (e : Entry) → IsReached rules starts few s → IsFinal rules few s e
      → IsFinal rules many s e
  final_agrees s e p (redirect target is_entry last leads stays is) =
      redirect target (agrees s (entry.Redirect target) p is_entry) last (leads_agree s last p leads) stays is
  final_agrees s e p (too_far target is_entry far is) =
      too_far target (agrees s (entry.Redirect target) p is_entry)
      (far.0, (redirects_agree (most_redirects + 1) s far.0 p far.1).0) is
  final_agrees s e p (with_module first is_entry edges all is) =
      with_module first (agrees s (entry.Module first) p is_entry) edges
      (edges_agree first (edges_of first) edges (λ t h. reached_on rules starts few s t p
      (record { entry = entry.Module first; is_entry = is_entry; among = among_targets rules first t h })) all)
      is
  final_agrees s e p (same first is_entry stays plain is) = same first (agrees s first p is_entry) stays plain is
