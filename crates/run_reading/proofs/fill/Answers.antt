use Rattle.std.proofs.Common.{rules, ◌≡◌, ℕ, ◌+◌, ◌≤◌, List, ◌++◌, length, take, ap, sym, ◌∙◌, subst, length-take-le}
use Rattle.std.proofs.Math.Seq.{take-append-add}
use Rattle.std.proofs.lemmas.List.{take-append-le}
use Rattle.std.proofs.KnownBytes.{Consumes-trans}
use Rattle.std.specs.Io.KnownBytes.{Consumes}
use borrow.Rule.Slice.PartMut.{post_of, put_mid}
use Rattle.run_reading.proofs.fill.Goals as goal

-- after n bytes were read behind the first a, these and those stand at the buffer's start
take-filled : (a k n : ℕ) (before part : List ℕ) → a ≤ length before → n ≤ length part → take (a + n) (put_mid a k before part) ≡ take a before ++ take n part
take-filled a k n before part within fits =
    let rest = post_of a k before in
    ap (λ m. take (m + n) (put_mid a k before part)) (sym (length-take-le a before within))
    ∙ take-append-add (take a before) (part ++ rest) n
    ∙ ap (λ l. take a before ++ l) (take-append-le n part rest fits)

pub loop-done-preserved : goal.loop-done-preserved
loop-done-preserved g c =
    let filled = take-filled _ _ _ c.loop-done.buffer c.read.new.buf c.loop-done.invariant.0 c.in_ok-n.ensures.bound.0 in
    (search rules, subst (Consumes _ _) (sym filled) (Consumes-trans _ _ _ _ _ c.loop-done.invariant.1 c.in_ok-n.ensures.bytes.0))
