use Rattle.std.proofs.Common.{rules, ◌≡◌, ◌++◌, ◌∷◌, [], ◌∙◌, sym, ap, subst, true, false, refl, cond, Bool, List, length, Some, None}
use Rattle.url.specs.Parts.{Parts}
use Rattle.graph_tables.specs.declared.pending_requests.requests.First.{First}
use Rattle.graph_tables.specs.pending_requests.Inside.{is_same, at_url, IsKept}
use Rattle.graph_tables.proofs.pending_requests_lemmas.RequestLemmas.{kept_more, marked_more}
use Rattle.graph_tables.proofs.pending_requests.requests.Requests.ask.Goals as goal

pub invariant_of-self-2 : goal.invariant_of-self-2
invariant_of-self-2 c =
    let all : c.push.new.self.items ≡ c.self.inside.all.items ++ c.args.url.now ∷ [] = search rules in
    let marks : c.push-2.new.self.items ≡ c.self.inside.marks.items ++ true ∷ [] = search rules in
    let put : (q : Parts) → at_url c.insert.new.self.entries q
    ≡ cond (is_same c.args.url.now q) (Some c.with_one_more-first.result) (at_url c.self.inside.firsts.entries q) =
    λ q. subst (λ (u : Parts). at_url c.insert.new.self.entries q
    ≡ cond (is_same u q) (Some c.with_one_more-first.result) (at_url c.self.inside.firsts.entries q))
    c.in_ok-key.ensures.cases
    (c.in_ok-insert.ensures.updates.0 q) in
    rw (all, marks)
    (kept_more c.self.inside.all.items c.self.inside.marks.items c.self.inside.passed c.self.inside.firsts.entries
    c.insert.new.self.entries c.args.url.now c.with_one_more-first.result c.self.invariant put
    c.with_one_more-first.ensures.known
    (λ none. let new = c.with_one_more-first.ensures.new none in
    (new.0 ∙ ap length c.as_slice-number.ensures.value, new.1)))

pub returns-clause-waiting : goal.returns-clause-waiting
returns-clause-waiting c =
    let all : c.push.new.self.items ≡ c.self.inside.all.items ++ c.args.url.now ∷ [] = search rules in
    let marks : c.push-2.new.self.items ≡ c.self.inside.marks.items ++ true ∷ [] = search rules in
    rw (← c.self.view_is, all, marks)
    (marked_more c.self.inside.marks.items c.self.inside.all.items c.args.url.now c.self.invariant.even)
