use Rattle.std.specs.Prelude.{◌≡◌, length, map, string_bytes}
use Rattle.std.proofs.Common.{rules, subst, sym}
use Rattle.tall_graph.specs.Drafts.{IsDraft}
use Rattle.tall_graph.specs.Kept.{IsKept, vertices}
use Rattle.tall_graph.proofs.PushLaws.{kept_as, kept_texts, kept_push}
use Rattle.tall_graph.proofs.adding.insert.Goals as goal

pub returns-in_err-key-clause-kept : goal.returns-in_err-key-clause-kept
returns-in_err-key-clause-kept c =
    let ts = map string_bytes c.form_key.new.texts.keys in
    let ns = c.args.nodes.now.items in
    let forms = c.args.forms.now.entries in
    let spaces = c.args.spaces.now.entries in
    kept_as ns c.reserve.new.self.items ts forms c.reserve-2.new.self.entries spaces c.reserve-3.new.self.entries
    (kept_texts ns (map string_bytes c.args.texts.now.keys) ts forms spaces c.requires.kept c.form_key.ensures.grows)
    c.reserve.ensures.items c.reserve-2.ensures.entries c.reserve-3.ensures.entries

pub returns-clause-kept : goal.returns-clause-kept
returns-clause-kept c =
    let ts = map string_bytes c.form_key.new.texts.keys in
    let old = c.args.nodes.now.items in
    let ns = c.reserve.new.self.items in
    let forms = c.reserve-2.new.self.entries in
    let spaces = c.reserve-3.new.self.entries in
    let d = c.args.draft in
    let kept : IsKept ns ts forms spaces =
    kept_as old ns ts c.args.forms.now.entries forms c.args.spaces.now.entries spaces
    (kept_texts old (map string_bytes c.args.texts.now.keys) ts c.args.forms.now.entries c.args.spaces.now.entries c.requires.kept c.form_key.ensures.grows)
    c.reserve.ensures.items c.reserve-2.ensures.entries c.reserve-3.ensures.entries in
    let draft : IsDraft (vertices ns) d c.requires.accepted.0 = subst (λ xs. IsDraft (vertices xs) d c.requires.accepted.0) (sym c.reserve.ensures.items) c.requires.accepted.1 in
    let f = c.number_of-form.result in
    let g = c.space_in-space.result in
    let place : c.len-place.result ≡ length ns = search rules in
    subst (λ xs. IsKept xs ts c.number_of-form.new.table.entries c.space_in-space.new.spaces.entries) (sym c.push_reserved.ensures.items)
    (kept_push ns ts forms spaces kept d c.requires.accepted.0 draft c.number_of-form.new.table.entries c.space_in-space.new.spaces.entries
    c.in_ok-key.key c.len-place.result f g place c.in_ok-key.ensures.key c.number_of-form.ensures c.space_in-space.ensures)
