use Rattle.std.proofs.Common.{inl, inr}
use Rattle.marker_witnesses.proofs.EdgeLaws.{contains_goes_on, extra_goes_on, in_goes_on, text_goes_on, version_goes_on}
use Rattle.marker_witnesses.proofs.choice.Walk.choice.Goals as goal

pub returns-in-True : goal.returns-in-True
returns-in-True c = inl c.in-True.ensures.shows

pub returns-in-False : goal.returns-in-False
returns-in-False c = inr c.in-False.ensures.shows

pub returns-in-Version : goal.returns-in-Version
returns-in-Version c = version_goes_on c.version_choice.result c.args.interner.now c.args.tree c.in-Version.view c.in-Version.ensures.edges c.version_choice.ensures

pub returns-in-String : goal.returns-in-String
returns-in-String c = text_goes_on c.text_choice.result c.args.interner.now c.args.tree c.in-String.view c.in-String.ensures.edges c.text_choice.ensures

pub returns-in-In : goal.returns-in-In
returns-in-In c = in_goes_on c.in_choice.result c.args.interner.now c.args.tree c.in-In.view c.in-In.ensures.edges c.in_choice.ensures

pub returns-in-Contains : goal.returns-in-Contains
returns-in-Contains c = contains_goes_on c.contains_choice.result c.args.interner.now c.args.tree c.in-Contains.view c.in-Contains.ensures.edges c.contains_choice.ensures

pub returns-in-Extra : goal.returns-in-Extra
returns-in-Extra c = extra_goes_on c.extra_choice.result c.args.interner.now c.args.tree c.in-Extra.view c.in-Extra.ensures.edges c.extra_choice.ensures
