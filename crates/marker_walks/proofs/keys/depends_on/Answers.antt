use Rattle.std.proofs.Common.{◌<◌, length, refl, arith}
use Rattle.std.proofs.lemmas.Bool.{false≢true}
use Rattle.std.proofs.lemmas.Option.{slice_get_within, slice_get-get_or}
use Rattle.marker_walks.specs.Keys.{AsksAbout}
use Rattle.marker_walks.proofs.KeyLaws.{found_key, missing_key, none_up_to}
use Rattle.marker_walks.proofs.keys.depends_on.Goals as goal

pub returns-then-asks_about : goal.returns-then-asks_about
returns-then-asks_about c =
    let lt : c.loop-index.index < length c.args.subtrees.now = omega arith in (
      λ _. found_key c.args.table.now c.args.id c.args.subtrees.now c.args.key c.loop-index.index _ c.requires.rules c.requires.held c.requires.subtrees
          (slice_get-get_or c.args.subtrees.now c.loop-index.index _ lt) (c.asks_about.ensures.0 c.if-asks_about.true),
      λ _. refl,
    )

pub loop-index-preserved : goal.loop-index-preserved
loop-index-preserved c =
    none_up_to c.args.subtrees.now c.loop-index.index _ (λ u. AsksAbout c.args.table.now u c.args.key) (λ asks. false≢true (c.if-asks_about.ensures.1 asks)) c.loop-index.invariant

pub returns : goal.returns
returns c = (
  λ never. absurd (false≢true never),
  λ d. absurd (missing_key c.args.table.now c.args.id c.args.subtrees.now c.args.key c.requires.rules c.requires.held c.requires.subtrees
      (λ i u e. c.loop-index.invariant i u (let l : i < length c.args.subtrees.now = slice_get_within c.args.subtrees.now i u e in omega arith) e) d),
)
