use Rattle.std.proofs.Common.{refl, sym, ◌∙◌}
use Rattle.std.proofs.lemmas.Result.{err_from_is_err_and}
use Rattle.marker_grammar.specs.declared.reader.Wanted.TheVariants as wanted
use Rattle.marker_grammar.proofs.ReaderLaws.{start_sound, follows_start, follows_at, follows_step, refuses_by, start_opened, opened_at}
use Rattle.marker_grammar.proofs.reader.read.Goals as goal

pub loop-wanted-init : goal.loop-wanted-init
loop-wanted-init c = record {
  text = refl;
  sound = start_sound _ c.utf8.text refl c.new.ensures.items c.in_ok-tokens.ensures.items refl refl;
  follows = follows_start _ _ _ _ c.new.ensures.items c.new-2.ensures.items;
  opened = start_opened _ _ _ c.new.ensures.items;
}

pub returns-in_err-wanted-in-Atom-clause-err : goal.returns-in_err-wanted-in-Atom-clause-err
returns-in_err-wanted-in-Atom-clause-err c =
    let p = err_from_is_err_and c.from_residual-in_err-wanted-in-Atom.result c.from_residual-in_err-wanted-in-Atom.ensures.1 in
    rw (p.1, p.2) (refuses_by _ c.loop-wanted.reader wanted.Atom _ c.loop-wanted.invariant.text (follows_at _ c.loop-wanted.reader _ wanted.Atom c.in-Atom.is c.loop-wanted.invariant.follows) (opened_at c.loop-wanted.reader _ wanted.Atom c.in-Atom.is c.loop-wanted.invariant.opened) c.in_err-wanted-in-Atom.ensures.err)

pub loop-wanted-preserved-in-Atom : goal.loop-wanted-preserved-in-Atom
loop-wanted-preserved-in-Atom c = record {
  text = c.loop-wanted.invariant.text ∙ sym c.in_ok-wanted-in-Atom.ensures.advances.text;
  sound = c.in_ok-wanted-in-Atom.ensures.sound;
  follows = follows_step _ c.loop-wanted.reader c.atom.new.self wanted.Atom _ (follows_at _ c.loop-wanted.reader _ wanted.Atom c.in-Atom.is c.loop-wanted.invariant.follows) c.in_ok-wanted-in-Atom.ensures.same.readings;
  opened = c.in_ok-wanted-in-Atom.ensures.same.opened (opened_at c.loop-wanted.reader _ wanted.Atom c.in-Atom.is c.loop-wanted.invariant.opened);
}

pub returns-in_err-next-in-Rest-clause-err : goal.returns-in_err-next-in-Rest-clause-err
returns-in_err-next-in-Rest-clause-err c =
    let p = err_from_is_err_and c.from_residual-in_err-next-in-Rest.result c.from_residual-in_err-next-in-Rest.ensures.1 in
    rw (p.1, p.2) (refuses_by _ c.loop-wanted.reader wanted.Rest _ c.loop-wanted.invariant.text (follows_at _ c.loop-wanted.reader _ wanted.Rest c.in-Rest.is c.loop-wanted.invariant.follows) (opened_at c.loop-wanted.reader _ wanted.Rest c.in-Rest.is c.loop-wanted.invariant.opened) c.in_err-next-in-Rest.ensures.err)

pub loop-wanted-preserved : goal.loop-wanted-preserved
loop-wanted-preserved c =
    let same = rw c.in-Some.is at c.in_ok-next-in-Rest.ensures.same in
    let sound = rw c.in-Some.is at c.in_ok-next-in-Rest.ensures.sound in
    let advances = rw c.in-Some.is at c.in_ok-next-in-Rest.ensures.advances in
    record {
      text = c.loop-wanted.invariant.text ∙ sym advances.text;
      sound = sound;
      follows = follows_step _ c.loop-wanted.reader c.follow.new.self wanted.Rest _ (follows_at _ c.loop-wanted.reader _ wanted.Rest c.in-Rest.is c.loop-wanted.invariant.follows) same.readings;
      opened = same.opened (opened_at c.loop-wanted.reader _ wanted.Rest c.in-Rest.is c.loop-wanted.invariant.opened);
    }

pub returns-clause-only : goal.returns-clause-only
returns-clause-only c f k x =
    let ended = rw c.in-None.is at c.in_ok-next-in-Rest.ensures.ended in
    (ended.one f k).0 ((follows_at _ c.loop-wanted.reader _ wanted.Rest c.in-Rest.is c.loop-wanted.invariant.follows f k).0 x)

pub returns-clause-found : goal.returns-clause-found
returns-clause-found c =
    let ended = rw c.in-None.is at c.in_ok-next-in-Rest.ensures.ended in
    (follows_at _ c.loop-wanted.reader _ wanted.Rest c.in-Rest.is c.loop-wanted.invariant.follows _ _).1 ((ended.one _ _).1 (refl, refl))
