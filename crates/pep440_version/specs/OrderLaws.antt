-- The order of versions is total, and versions that tie have one hash. The laws of the comparisons
-- cite these.
use Rattle.std.proofs.Common.{◌≡◌, ◌++◌, ℕ, Option, Some, None, List, [], ◌∷◌, refl, sym, ap, ◌∙◌, subst, arith}
use Rattle.std.proofs.lemmas.Bool.Decides.{nat_tests}
use Rattle.std.specs.Ordering.{eq_by_cmp, is_eq, nat_cmp, on, ordering_then, then_cmp}
use Rattle.std.specs.Option.{option_cmp}
use Rattle.std.specs.Cmp.{Equal-is, tied_itself, IsTotalOrder, nat_cmp_total, on_total, then_total}
use Rattle.std.specs.Cmp.Lexicographic.{lists_total, nat_list_cmp_total, options_total, slice_cmp}
use Rattle.std.specs.FinMap.{IsAntisymmetric, nat_cmp-IsAntisymmetric, slice_cmp-IsAntisymmetric}
use Rattle.std.specs.declared.cmp.Ordering.{Ordering}
use Rattle.std.specs.declared.cmp.Ordering.TheVariants.{Less, Equal, Greater}
use Rattle.std.specs.Prelude.{Bool, IsTrue}
use Rattle.std.specs.Bool.{one_answer}
use Rattle.std.specs.Hash as fed
use Rattle.std.specs.Hash.{Alike}
use Rattle.pep440_version.specs.Parts.{Parts, Segment, word, number}
use Rattle.pep440_version.specs.HashInput.{segment_writes, version_writes}
use Rattle.pep440_version.specs.Order.{IsSameVersion, keep, significant, dev_key, dev_key_of, kind_rank, padded_cmp, pre_key, pre_key_of, ranked_cmp, segment_cmp, version_cmp}
use Rattle.pep440_version.specs.declared.version.Prerelease.{Prerelease}
use Rattle.pep440_version.specs.declared.version.PrereleaseKind.{PrereleaseKind}
use Rattle.pep440_version.specs.declared.version.PrereleaseKind.TheVariants.{Alpha, Beta, Rc}

-- ---- releases

keep-cmp : (x y : ℕ) (s t : List ℕ)
    → slice_cmp nat_cmp (keep x s) (keep y t) ≡ ordering_then (nat_cmp x y) (slice_cmp nat_cmp s t)
keep-cmp x y [] [] = grind (arith, nat_tests)
keep-cmp x y [] (b ∷ t) = grind (arith, nat_tests)
keep-cmp x y (a ∷ s) [] = grind (arith, nat_tests)
keep-cmp x y (a ∷ s) (b ∷ t) = refl

-- padding with zeros compares what is left without them
pub padded-significant : (xs ys : List ℕ)
    → padded_cmp xs ys ≡ slice_cmp nat_cmp (significant xs) (significant ys)
unfolding padded_cmp significant
padded-significant [] [] = refl
padded-significant [] (y ∷ ys) =
    ap (ordering_then (nat_cmp 0 y)) (padded-significant [] ys)
    ∙ sym (keep-cmp 0 y [] (significant ys))
padded-significant (x ∷ xs) [] =
    ap (ordering_then (nat_cmp x 0)) (padded-significant xs [])
    ∙ sym (keep-cmp x 0 (significant xs) [])
padded-significant (x ∷ xs) (y ∷ ys) =
    ap (ordering_then (nat_cmp x y)) (padded-significant xs ys)
    ∙ sym (keep-cmp x y (significant xs) (significant ys))

pub padded_total : IsTotalOrder padded_cmp
padded_total = subst IsTotalOrder (λ i xs ys. sym (padded-significant xs ys) i)
    (on_total significant nat_list_cmp_total)

-- ---- the other keys

pub ranked_total : IsTotalOrder ranked_cmp
ranked_total = then_total (on_total (λ (k : ℕ × ℕ). k.0) nat_cmp_total)
    (on_total (λ (k : ℕ × ℕ). k.1) nat_cmp_total)

abbrev class_of : Segment → ℕ
class_of (word a) = 0
class_of (number n) = 1

abbrev word_of : Segment → List ℕ
word_of (word a) = a
word_of (number n) = []

abbrev number_of : Segment → ℕ
number_of (word a) = 0
number_of (number n) = n

abbrev by_parts_cmp : Segment → Segment → Ordering
by_parts_cmp = then_cmp (on class_of nat_cmp)
    (then_cmp (on word_of (slice_cmp nat_cmp)) (on number_of nat_cmp))

then_equal : (r : Ordering) → ordering_then r Equal ≡ r
then_equal Less = refl
then_equal Equal = refl
then_equal Greater = refl

segment-by_parts : (a b : Segment) → segment_cmp a b ≡ by_parts_cmp a b
segment-by_parts (word a) (word b) = sym (then_equal (slice_cmp nat_cmp a b))
segment-by_parts (word a) (number n) = refl
segment-by_parts (number m) (word b) = refl
segment-by_parts (number m) (number n) = refl

pub segment_total : IsTotalOrder segment_cmp
segment_total = subst IsTotalOrder (λ i a b. sym (segment-by_parts a b) i)
    (then_total (on_total class_of nat_cmp_total)
    (then_total (on_total word_of nat_list_cmp_total) (on_total number_of nat_cmp_total)))

pub version_total : IsTotalOrder version_cmp
version_total =
    then_total (on_total (λ (v : Parts). v.epoch) nat_cmp_total)
    (then_total (on_total (λ (v : Parts). v.release) padded_total)
    (then_total (on_total pre_key ranked_total)
    (then_total (on_total (λ (v : Parts). v.post) (options_total nat_cmp_total))
    (then_total (on_total dev_key ranked_total)
    (on_total (λ (v : Parts). v.locals) (lists_total segment_total))))))

-- ---- versions that tie

then_first : (r s : Ordering) → ordering_then r s ≡ Equal → r ≡ Equal
then_first Less s e = cc e
then_first Equal s e = refl
then_first Greater s e = cc e

then_second : (r s : Ordering) → ordering_then r s ≡ Equal → s ≡ Equal
then_second Less s e = cc e
then_second Equal s e = e
then_second Greater s e = cc e

option-anti : IsAntisymmetric (option_cmp nat_cmp)
option-anti None None e = refl
option-anti None (Some y) e = cc e
option-anti (Some x) None e = cc e
option-anti (Some x) (Some y) e = ap Some (nat_cmp-IsAntisymmetric x y e)

segment-anti : IsAntisymmetric segment_cmp
segment-anti (word a) (word b) e = ap word (slice_cmp-IsAntisymmetric nat_cmp-IsAntisymmetric a b e)
segment-anti (word a) (number n) e = cc e
segment-anti (number m) (word b) e = cc e
segment-anti (number m) (number n) e = ap number (nat_cmp-IsAntisymmetric m n e)

ranked-first : (j k : ℕ × ℕ) → ranked_cmp j k ≡ Equal → j.0 ≡ k.0
ranked-first j k e = nat_cmp-IsAntisymmetric j.0 k.0 (then_first _ _ e)

ranked-second : (j k : ℕ × ℕ) → ranked_cmp j k ≡ Equal → j.1 ≡ k.1
ranked-second j k e = nat_cmp-IsAntisymmetric j.1 k.1 (then_second _ _ e)

pub padded-tie : (xs ys : List ℕ) → padded_cmp xs ys ≡ Equal → significant xs ≡ significant ys
padded-tie xs ys e =
    slice_cmp-IsAntisymmetric nat_cmp-IsAntisymmetric (significant xs) (significant ys)
    (sym (padded-significant xs ys) ∙ e)

-- ---- only the same version is equal in the order

kind_rank-injective : (j k : PrereleaseKind) → kind_rank j ≡ kind_rank k → j ≡ k
kind_rank-injective Alpha Alpha e = refl
kind_rank-injective Alpha Beta e = absurd (omega arith)
kind_rank-injective Alpha Rc e = absurd (omega arith)
kind_rank-injective Beta Alpha e = absurd (omega arith)
kind_rank-injective Beta Beta e = refl
kind_rank-injective Beta Rc e = absurd (omega arith)
kind_rank-injective Rc Alpha e = absurd (omega arith)
kind_rank-injective Rc Beta e = absurd (omega arith)
kind_rank-injective Rc Rc e = refl

-- the rank of no pre-release is not that of a kind
no_kind : (k : PrereleaseKind) (post dev : Option ℕ)
    → kind_rank k ≡ (pre_key_of None post dev).0 → ⊥
no_kind Alpha None None e = omega arith
no_kind Alpha None (Some d) e = omega arith
no_kind Alpha (Some q) dev e = omega arith
no_kind Beta None None e = omega arith
no_kind Beta None (Some d) e = omega arith
no_kind Beta (Some q) dev e = omega arith
no_kind Rc None None e = omega arith
no_kind Rc None (Some d) e = omega arith
no_kind Rc (Some q) dev e = omega arith

same_pre : (p r : Option Prerelease) (post dev : Option ℕ)
    → (pre_key_of p post dev).0 ≡ (pre_key_of r post dev).0
    → (pre_key_of p post dev).1 ≡ (pre_key_of r post dev).1 → p ≡ r
same_pre None None post dev rank count = refl
same_pre None (Some r) post dev rank count = absurd (no_kind r.kind post dev (sym rank))
same_pre (Some p) None post dev rank count = absurd (no_kind p.kind post dev rank)
same_pre (Some p) (Some r) post dev rank count =
    let kind = kind_rank-injective p.kind r.kind rank in
    λ i. Some (record { kind = kind i; number = count i })

same_dev : (d e : Option ℕ)
    → (dev_key_of d).0 ≡ (dev_key_of e).0 → (dev_key_of d).1 ≡ (dev_key_of e).1 → d ≡ e
same_dev None None rank count = refl
same_dev None (Some e) rank count = absurd (omega arith)
same_dev (Some d) None rank count = absurd (omega arith)
same_dev (Some d) (Some e) rank count = ap Some count

pub tied-same : (x y : Parts) → version_cmp x y ≡ Equal → IsSameVersion x y
tied-same x y tie =
    let t1 = then_second _ _ tie in
    let t2 = then_second _ _ t1 in
    let t3 = then_second _ _ t2 in
    let t4 = then_second _ _ t3 in
    let post : x.post ≡ y.post = option-anti _ _ (then_first _ _ t3) in
    let dev : x.dev ≡ y.dev = same_dev _ _
    (ranked-first (dev_key x) (dev_key y) (then_first _ _ t4))
    (ranked-second (dev_key x) (dev_key y) (then_first _ _ t4)) in
    let key : pre_key y ≡ pre_key_of y.pre x.post x.dev =
    λ i. pre_key_of y.pre (sym post i) (sym dev i) in
    let rank : (pre_key x).0 ≡ (pre_key_of y.pre x.post x.dev).0 =
    ranked-first (pre_key x) (pre_key y) (then_first _ _ t2)
    ∙ ap (λ (k : ℕ × ℕ). k.0) key in
    let number : (pre_key x).1 ≡ (pre_key_of y.pre x.post x.dev).1 =
    ranked-second (pre_key x) (pre_key y) (then_first _ _ t2)
    ∙ ap (λ (k : ℕ × ℕ). k.1) key in
    record {
      release = then_first _ _ t1;
      pre = same_pre x.pre y.pre x.post x.dev rank number;
      post = post;
      dev = dev;
      epoch = nat_cmp-IsAntisymmetric _ _ (then_first _ _ tie);
      locals = slice_cmp-IsAntisymmetric segment-anti _ _ (then_second _ _ t4);
    }

-- ---- versions that tie have one hash

pub version_alike : Alike (eq_by_cmp version_cmp) version_writes
version_alike = record {
  fed = λ x y h.
      let same = tied-same x y ((Equal-is (version_cmp x y)).0 h) in
      let release = padded-tie _ _ same.release in
      λ i. fed.u64 (same.epoch i) ++ (fed.slice fed.u64 (release i)
      ++ (fed.u8 (pre_key_of (same.pre i) (same.post i) (same.dev i)).0
      ++ (fed.u64 (pre_key_of (same.pre i) (same.post i) (same.dev i)).1
      ++ (fed.option fed.u64 (same.post i)
      ++ (fed.u8 (dev_key_of (same.dev i)).0
      ++ (fed.u64 (dev_key_of (same.dev i)).1 ++ fed.slice segment_writes (same.locals i)))))));
}

-- ---- equality

then_both : (r s : Ordering) → r ≡ Equal → s ≡ Equal → ordering_then r s ≡ Equal
then_both r s e f = λ i. ordering_then (e i) (f i)

-- what is one is tied
tied : {K : Type 0} {R : K → K → Ordering} → IsTotalOrder R → (x y : K) → x ≡ y → R x y ≡ Equal
tied {K} {R} o x y e = subst (λ (z : K). R x z ≡ Equal) e (tied_itself o x)

pub same-tied : (x y : Parts) → IsSameVersion x y → version_cmp x y ≡ Equal
same-tied x y same =
    let pre : pre_key x ≡ pre_key y = λ i. pre_key_of (same.pre i) (same.post i) (same.dev i) in
    let dev : dev_key x ≡ dev_key y = ap dev_key_of same.dev in
    then_both _ _ (tied nat_cmp_total _ _ same.epoch)
    (then_both _ _ same.release
    (then_both _ _ (tied ranked_total (pre_key x) (pre_key y) pre)
    (then_both _ _ (tied (options_total nat_cmp_total) _ _ same.post)
    (then_both _ _ (tied ranked_total (dev_key x) (dev_key y) dev)
    (tied (lists_total segment_total) _ _ same.locals)))))

-- the test of the order for a tie is one for the same version
pub same-eq : (x y : Parts) (b : Bool)
    → (IsTrue b → IsSameVersion x y) → (IsSameVersion x y → IsTrue b)
    → b ≡ eq_by_cmp version_cmp x y
same-eq x y b f g = one_answer b (eq_by_cmp version_cmp x y) (f, g) (
  λ e. tied-same x y ((Equal-is (version_cmp x y)).0 e),
  λ s. (Equal-is (version_cmp x y)).1 (same-tied x y s),
)

pub same_locals : (xs ys : List Segment)
    → (IsTrue (is_eq (slice_cmp segment_cmp xs ys)) → xs ≡ ys)
    × (xs ≡ ys → IsTrue (is_eq (slice_cmp segment_cmp xs ys)))
same_locals xs ys = (
  λ e. slice_cmp-IsAntisymmetric segment-anti xs ys
      ((Equal-is (slice_cmp segment_cmp xs ys)).0 e),
  λ e. (Equal-is (slice_cmp segment_cmp xs ys)).1
      (tied (lists_total segment_total) xs ys e),
)
