use Rattle.std.proofs.Common.{◌≡◌, ◌∙◌, sym, ap, subst, ℕ, Bool, true, List, IsUtf8, Ok}
use Rattle.std.specs.Prelude.{◌&&◌}
use Rattle.std.specs.Str.{is_utf8}
use Rattle.std.proofs.lemmas.Str.{is_utf8-from_IsUtf8}
use Rattle.graph_entry.specs.Specifier.{text_of}
use Rattle.graph_entry.specs.Resolution.{Resolved, resolve}
use Rattle.graph_vendor.specs.Names.{renamed, literal}
use Rattle.graph_vendor.specs.Kept.{leads_by}
use Rattle.graph_vendor.proofs.kept.leads_there.Goals as goal

-- the literal is a text, as each `Text` is
pub returns-in-Ok : goal.returns-in-Ok
returns-in-Ok c =
    let new : List ℕ = literal c.args.graph.now.entries c.args.names.now (text_of c.args.to.now) in
    let name = renamed c.args.graph.now.entries c.args.names.now (text_of c.args.to.now) in
    let same : c.as_str.result.now ≡ new = c.as_str.ensures ∙ c.in_ok-text.ensures in
    let is_text : is_utf8 new ≡ true = is_utf8-from_IsUtf8 new (subst IsUtf8 same c.as_str.utf8) in
    let leads : Ok c.in-Ok.there ≡ resolve (text_of c.args.at.now) new =
    sym c.in-Ok.is ∙ c.in_ok-there.ensures ∙ ap (resolve (text_of c.args.at.now)) same in
    c.is_renamed.ensures ∙ ap (λ (r : Resolved). leads_by r name) leads
    ∙ ap (λ (b : Bool). b && leads_by (resolve (text_of c.args.at.now) new) name) (sym is_text)
