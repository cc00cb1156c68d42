use Rattle.std.proofs.Common.{◌≡◌, List, ℕ, subst}
use Rattle.std.specs.Prelude.{IfOk, IfSome, string_bytes, option_map}
use Rattle.std.specs.List.{AllByRecursion}
use Rattle.marker_graph.specs.Contents.{truth}
use Rattle.requirement_words.specs.Text.{IsNormal}
use Rattle.requirement_words.proofs.HeadText.{head_ascii, head_reads}
use Rattle.pep508_requirements.specs.Text.{requirement_text}
use Rattle.pep508_requirements.proofs.TextLaws.{text_told, text_back, utf8_text}
use Rattle.pep508_requirements.proofs.requirement.Requirement.try_to_string.Goals as goal

pub returns-clause-text : goal.returns-clause-text
returns-clause-text g c =
    let m = option_map string_bytes c.in_ok-marker.marker in
    let parts = requirement_text g.T.Display.output c.args.self.now.name c.args.self.now.extras.items c.args.self.now.version_or_url in
    let told = subst (λ (xs : List (List ℕ)). IfOk c.to_string.result (λ s. IfSome (requirement_text g.T.Display.output c.args.self.now.name xs c.args.self.now.version_or_url m) (λ bs. string_bytes s ≡ bs))) c.deref-2.ensures.value c.to_string.ensures.ok in
    text_told string_bytes (truth c.args.interner.now c.args.self.now.marker) parts m c.in_ok-marker.ensures c.to_string.result told

pub returns-clause-read_back : goal.returns-clause-read_back
returns-clause-read_back g c =
    let m = option_map string_bytes c.in_ok-marker.marker in
    let told = subst (λ (xs : List (List ℕ)). IfOk c.to_string.result (λ s. IfSome (requirement_text g.T.Display.output c.args.self.now.name xs c.args.self.now.version_or_url m) (λ bs. string_bytes s ≡ bs))) c.deref-2.ensures.value c.to_string.ensures.ok in
    text_back string_bytes g.T.Pep508Url.names c.args.interner.now g.T.Display.output c.args.self.now.name c.args.self.now.extras.items c.args.self.now.version_or_url c.args.self.now.marker m
    (utf8_text string_bytes c.in_ok-marker.marker c.look_at_text.ensures) (subst IsNormal c.as_str.ensures.text c.as_str.ensures.normal) (subst (λ (xs : List (List ℕ)). AllByRecursion IsNormal xs) c.deref.ensures.value c.look_at_names.ensures) c.look_at_specifiers.ensures
    (λ asked. head_ascii c.args.self.now.name c.args.self.now.extras.items asked) (λ asked tail left p. head_reads c.args.self.now.name c.args.self.now.extras.items asked tail left p)
    c.in_ok-marker.ensures c.to_string.result told
