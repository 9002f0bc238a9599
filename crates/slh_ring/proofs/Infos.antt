-- What keys are expanded with differs where sets or paths do.
use Rattle.std.proofs.Common.{◌≡◌, ℕ, List, ◌++◌, length, take, drop, refl, sym, ◌∙◌, ap}
use Rattle.slh_core.proofs.Joins.{take_front, drop_front}
use Rattle.slh_ring.proofs.Entries.{numbers_read}
use Rattle.slh_ring.specs.Keys.{key_info}
use Rattle.slh_ring.specs.Paths.{IsPath}
use Rattle.slh_ring.specs.Records.{numbers_bytes, numbers_in, path_bytes}

-- paths are read back from their bytes
path_same : (p q : List ℕ) → IsPath p → IsPath q → path_bytes p ≡ path_bytes q → p ≡ q
path_same p q is_p is_q same =
    let count : length p ≡ length q = cc in
    let numbers : numbers_bytes p ≡ numbers_bytes q = cc in
    sym (numbers_read p is_p.numbers) ∙ ap (λ n. numbers_in n (numbers_bytes p)) count ∙ ap (numbers_in (length q)) numbers
    ∙ numbers_read q is_q.numbers

pub record AreSame (name other p q : List ℕ) : Type 0 where
  pub names : name ≡ other
  pub paths : p ≡ q

pub infos_same : (name other p q : List ℕ) → IsPath p → IsPath q → key_info name p ≡ key_info other q → AreSame name other p q
infos_same name other p q is_p is_q same =
    let count : length name ≡ length other = cc in
    let later : name ++ path_bytes p ≡ other ++ path_bytes q = cc in
    record {
      names = sym (take_front (length name) name (path_bytes p) refl) ∙ ap (take (length name)) later
          ∙ ap (λ n. take n (other ++ path_bytes q)) count ∙ take_front (length other) other (path_bytes q) refl;
      paths = path_same p q is_p is_q
          (sym (drop_front (length name) name (path_bytes p) refl) ∙ ap (drop (length name)) later
          ∙ ap (λ n. drop n (other ++ path_bytes q)) count ∙ drop_front (length other) other (path_bytes q) refl);
    }
