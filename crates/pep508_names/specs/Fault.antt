-- What a call that reads a name may refuse, and the line that an invalid name prints.
use Rattle.std.specs.Prelude.{◌≡◌, ℕ, List, ◌++◌, ⊤, codes}
use Rattle.refusal.specs.declared.Refusal.{Refusal}
use Rattle.refusal.specs.declared.Refusal.TheVariants.{OutOfMemory, SegmentAtEnd, Fault}
use Rattle.pep508_names.specs.Name.{IsName}

-- memory ran out, or the text is an invalid name; the fault is the text itself
abbrev pub IsNameRefusal : List ℕ → Refusal (List ℕ) → Type 0
IsNameRefusal t OutOfMemory = ⊤
IsNameRefusal t SegmentAtEnd = ⊥
IsNameRefusal t (Fault refused) = (refused ≡ t) × ¬ IsName t

-- what an invalid name prints
abbrev pub invalid_name_text : List ℕ → List ℕ
invalid_name_text t =
    codes "Not a valid package or extra name: \"" ++ (t ++ codes "\". Names must start and end with a letter or digit and may only contain -, _, ., and alphanumeric characters.")
