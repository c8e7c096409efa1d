-- The laws of a spool in memory (own).
use Rattle.std.specs.Prelude.{◌≡◌, ℕ, ◌≤◌, List, length, take, drop, Some, refl}
use Rattle.std.proofs.Common.{sym, ap, subst}
use Rattle.std.proofs.Math.Nat.{le_refl, le_trans}
use Rattle.std.proofs.lemmas.List.{take_all, drop_all}
use Rattle.spool_disk.specs.declared.attempt.Attempt.{Attempt}
use Rattle.spool_disk.specs.Disk.{FileMap}
use Rattle.spool_disk.specs.Changes.{after_all, IsLeftIn, IsLeft}

-- after all calls only the files themselves are left
left_at_end : (start : FileMap) (past : List Attempt) (calls : ℕ) (c : FileMap)
    → length past ≤ calls → IsLeftIn (drop calls past) (after_all (take calls past) start) c
    → c ≡ after_all past start
left_at_end start past calls c le h =
    subst (λ q. IsLeftIn q (after_all past start) c) (drop_all calls past le)
    (subst (λ q. IsLeftIn (drop calls past) (after_all q start) c) (take_all calls past le) h)

-- after all calls the files themselves are left
end_is_left : (start : FileMap) (past : List Attempt) (calls : ℕ) → length past ≤ calls
    → IsLeftIn (drop calls past) (after_all (take calls past) start) (after_all past start)
end_is_left start past calls le =
    subst (λ q. IsLeftIn (drop calls past) (after_all q start) (after_all past start))
    (sym (take_all calls past le))
    (subst (λ q. IsLeftIn q (after_all past start) (after_all past start))
    (sym (drop_all calls past le)) refl)

-- since now only the files themselves are left
pub left_now : (start : FileMap) (past : List Attempt) (c : FileMap)
    → IsLeft start past (length past) c → Some (after_all past start) ≡ Some c
left_now start past c h =
    ap (λ q. Some q) (sym (left_at_end start past h.calls c h.not_before h.is))

-- the files themselves are left since now
pub left_at_rest : (start : FileMap) (past : List Attempt)
    → IsLeft start past (length past) (after_all past start)
left_at_rest start past =
    let le : length past ≤ length past = le_refl (length past) in
    record {
      calls = length past;
      not_before = le;
      not_after = le;
      is = end_is_left start past (length past) le;
    }

-- what is left since a moment is left since each one before
pub left_earlier : (start : FileMap) (past : List Attempt) (t u : ℕ) (c : FileMap) → t ≤ u
    → IsLeft start past u c → IsLeft start past t c
left_earlier start past t u c le h = record {
  calls = h.calls;
  not_before = le_trans le h.not_before;
  not_after = h.not_after;
  is = h.is;
}
