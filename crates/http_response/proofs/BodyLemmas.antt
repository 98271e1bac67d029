-- Lemmas for the proofs about the bodies of replies, and of `reply_bytes`.
use Rattle.std.proofs.{Common.{◌≡◌, ℕ, List, [], ◌∷◌, ◌++◌, codes, flat_map, ap, sym, ◌∙◌, append_assoc, ◌+◌, ◌-◌, length, drop}, Math.Nat.add-sub_cancel_left}
use Rattle.std.proofs.{Math.Seq.{take-append_seam, drop-append_seam, drop-drop}, lemmas.List.append-nil}
use Rattle.http_response.specs.Body.{Member, member_text, object_text}
use borrow.Rule.Slice.PartMut.{put_mid, post_of}

-- The text `line`, followed by the given members of an object.
abbrev pub written : List ℕ → List Member → List ℕ
written line [] = line
written line (member ∷ members) = written (line ++ codes "," ++ member_text member) members

written-joined : (line : List ℕ) (members : List Member)
    → written line members ≡ line ++ flat_map (λ member. codes "," ++ member_text member) members
written-joined line [] = sym (append-nil line)
written-joined line (member ∷ members) =
    let rest = flat_map (λ member. codes "," ++ member_text member) members in
    written-joined (line ++ codes "," ++ member_text member) members
    ∙ ap (λ (front : List ℕ). front ++ rest) (append_assoc line (codes ",") (member_text member))
    ∙ append_assoc line (codes "," ++ member_text member) rest

pub written_object : (first : Member) (members : List Member)
    → written (codes "{" ++ member_text first) members ++ codes "}" ≡ object_text (first ∷ members)
written_object first members = ap (λ (line : List ℕ). line ++ codes "}") (written-joined (codes "{" ++ member_text first) members)

pub put_behind : (xs ys room : List ℕ) → put_mid (length xs) (length xs + length ys - length xs) (xs ++ post_of 0 (length xs) room) ys ≡ xs ++ ys
    ++ drop (length xs + length ys) room
put_behind xs ys room = simp (
  take-append_seam,
  drop-append_seam,
  add-sub_cancel_left,
  append_assoc,
) (ap (λ (l : List ℕ). xs ++ (ys ++ l)) (drop-drop (length ys) (length xs) room))
