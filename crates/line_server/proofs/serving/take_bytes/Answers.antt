use Rattle.std.proofs.Common.{[], sym, refl, ◌+◌}
use Rattle.std.proofs.lemmas.List.{append-nil, take_rest}
use Rattle.line_server.proofs.ServingLaws.{serves_none, serves_more, serves_rest}
use Rattle.line_server.proofs.serving.take_bytes.Goals as goal

pub loop-end-init : goal.loop-end-init
loop-end-init g c = ([], [], refl, serves_none g.A.Answer.step c.args.answerer.now c.args.held.now.items c.requires, sym (append-nil c.args.replies.now.items))

pub loop-end-preserved : goal.loop-end-preserved
loop-end-preserved g c =
    let i = c.loop-end.invariant in
    let r = c.in_ok-end_line.ensures.reply in
    serves_more g.A.Answer.step c.args.replies.now.items c.loop-end.rest.now c.in-Some.end i.2 i.3 i.4 c.in-Some.ensures r.1 r.2 c.in_ok-end_line.ensures.held (take_rest c.loop-end.rest.now (c.in-Some.end + 1))

pub returns : goal.returns
returns g c =
    let i = c.loop-end.invariant in
    (i.1, serves_rest g.A.Answer.step c.loop-end.rest.now i.2 i.3 c.in_default.ensures c.in_ok-extend_from_slice.ensures.items, i.4)
