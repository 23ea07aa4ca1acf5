-- Groups are components: there is one list of them in order, and what it is without cycles.
use Rattle.std.proofs.Common.{◌≡◌, ◌≤◌, ◌<◌, ◌⊎◌, inl, inr, ℕ, List, [], ◌∷◌, ◌++◌, length, map, refl, sym, ◌∙◌, ap, subst, arith}
use Rattle.std.specs.Ordering.{is_le, ordering_reverse}
use Rattle.std.proofs.lemmas.Bool.{false≢true}
use Rattle.std.proofs.lemmas.Cmp.{nat_list_cmp_total}
use Rattle.std.proofs.lemmas.List.{map-append}
use Rattle.graph_builder.specs.Rules.{Specifier}
use Rattle.topological_order.specs.Order as n
use Rattle.topological_order.specs.Order.{Links, Link}
use Rattle.topological_order.proofs.OrderLemmas.{order_alone}
use Rattle.topological_order.proofs.Theorems.{order_or_cycle}
use Rattle.strong_components.specs.Components as n2
use Rattle.strong_components.proofs.MemberLemmas.{first_among}
use Rattle.strong_components.proofs.Theorems as laws
use Rattle.graph_order.specs.Edges.{Entries}
use Rattle.graph_order.specs.Order.{IsUpTo, IsOrder, IsLeastOrder}
use Rattle.graph_order.proofs.TransferLemmas.{Naming, order_back, order_to}
use Rattle.graph_groups.specs.Groups.{first_of, holds, IsLeastReady, EachAfter, AreGroups}
use Rattle.graph_groups.proofs.GroupLemmas.{WithinEach, within_of, within_push, holds-name, name_less, ready_to, ready_back, first_name}

-- a group of one module
abbrev pub single : Specifier → List Specifier
single s = s ∷ []

module _ (entries : Entries) (g : Links) (m : Naming entries g) where
  -- a specifier up to another one has a number up to the other's
  up_back : (u v : ℕ) → u < length g → v < length g → IsUpTo (m.name u) (m.name v) → u ≤ v
  up_back u v k l up = by (order u v)
    where
      order : (a b : ℕ) → (a ≤ b) ⊎ (b < a)
      order a b = search arith

      by : (u ≤ v) ⊎ (v < u) → u ≤ v
      by (inl le) = le
      by (inr less) = absurd (false≢true (sym (ap is_le
          (nat_list_cmp_total.antisymm (m.name u) (m.name v)
          ∙ ap ordering_reverse (name_less entries g m v u less k))) ∙ up))

  least_back : (front : List (List ℕ)) (d : List Specifier) → WithinEach entries g m front
      → IsLeastReady entries (map (map m.name) front) d
      → (ns : List ℕ) × (map m.name ns ≡ d) × n2.IsLeastReady g front ns
  least_back front d w i =
      let (ns, all, r) = ready_back entries g m front d w i.ready in (
        ns,
        all,
        record {
          ready = r;
          least = λ c j.
              let low = r.component.nodes (n2.first_of ns) (first_among ns r.component.some) in
              let high = j.component.nodes (n2.first_of c) (first_among c j.component.some) in
              up_back (n2.first_of ns) (n2.first_of c) low high
              (subst (λ (x : Specifier). IsUpTo (m.name (n2.first_of ns)) x) (first_name entries g m c j.component.some)
              (subst (λ (x : Specifier). IsUpTo x (first_of (map m.name c)))
              (sym (ap first_of all) ∙ first_name entries g m ns r.component.some)
              (i.least (map m.name c) (ready_to entries g m front c w j))));
        },
      )

  each_back : (front : List (List ℕ)) (list : List (List Specifier)) → WithinEach entries g m front
      → EachAfter (IsLeastReady entries) (map (map m.name) front) list
      → (cs : List (List ℕ)) × (map (map m.name) cs ≡ list) × n2.EachAfter (n2.IsLeastReady g) front cs
      × WithinEach entries g m cs
  each_back front [] w h = ([], refl, tt, tt)
  each_back front (d ∷ list) w h =
      let (ns, all, r) = least_back front d w h.0 in
      let wn = within_of entries g m ns r.ready.component.nodes in
      let next : map (map m.name) (front ++ ns ∷ []) ≡ map (map m.name) front ++ d ∷ []
      = map-append (map m.name) front (ns ∷ [])
      ∙ ap (λ (x : List Specifier). map (map m.name) front ++ x ∷ []) all in
      let (cs, same, each, wc) = each_back (front ++ ns ∷ []) list (within_push entries g m front ns w wn)
      (subst (λ (fs : List (List Specifier)). EachAfter (IsLeastReady entries) fs list) (sym next) h.1) in (
        ns ∷ cs,
        ap (λ (x : List Specifier). x ∷ map (map m.name) cs) all ∙ ap (λ (xs : List (List Specifier)). d ∷ xs) same,
        (r, each),
        (wn, wc),
      )

  -- groups are components
  groups_back : (list : List (List Specifier)) → AreGroups entries list
      → (cs : List (List ℕ)) × (map (map m.name) cs ≡ list) × n2.AreComponents g cs
  groups_back list i =
      let (cs, same, each, w) = each_back [] list tt i.each in (
        cs,
        same,
        record {
          all = λ v l.
              sym (holds-name entries g m cs v w l) ∙ ap (λ (xs : List (List Specifier)). holds xs (m.name v)) same
              ∙ i.all (m.name v) (m.node v l);
          each = each;
        },
      )

  pub one_list : (a b : List (List Specifier)) → AreGroups entries a → AreGroups entries b → a ≡ b
  one_list a b i j =
      let (cs, same_a, p) = groups_back a i in
      let (ds, same_b, q) = groups_back b j in
      sym same_a ∙ ap (map (map m.name)) (laws.only_one g cs ds p q) ∙ same_b

  singles : (list : List ℕ) → map (map m.name) (map (laws.single g) list) ≡ map single (map m.name list)
  singles [] = refl
  singles (v ∷ list) = ap (λ (cs : List (List Specifier)). single (m.name v) ∷ cs) (singles list)

  pub ordered : (list : List Specifier) → IsOrder entries list → (found : List (List Specifier))
      → AreGroups entries found
      → (least : List Specifier) × IsLeastOrder entries least × (found ≡ map single least)
  ordered list o found i =
      let (ns, order) = order_back entries g m list o in
      let (cs, same, c) = groups_back found i in
      by cs same c ns order (order_or_cycle g m.within)
    where
      by : (cs : List (List ℕ)) → map (map m.name) cs ≡ found → n2.AreComponents g cs → (ns : List ℕ) → n.IsOrder g ns
          → ((least : List ℕ) × n.IsLeastOrder g least) ⊎ ((cycle : List Link) × n.IsCycle g cycle)
          → (least : List Specifier) × IsLeastOrder entries least × (found ≡ map single least)
      by cs same c ns order (inl (least, l)) = (
        map m.name least,
        order_to entries g m least l,
        sym same
            ∙ ap (map (map m.name)) (laws.only_one g cs (map (laws.single g) least) c (laws.of_order g least l))
            ∙ singles least,
      )
      by cs same c ns order (inr (cycle, h)) = absurd (order_alone g ns cycle order h)
