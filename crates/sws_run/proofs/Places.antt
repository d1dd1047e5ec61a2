-- A place in the input behind its first k frames.
use Rattle.std.proofs.Common.{◌≡◌, ℕ, suc, ◌+◌, ◌-◌, ◌<◌, ◌≤◌, List, [], length, refl, sym, ap, ◌∙◌, arith, subst}
use Rattle.std.proofs.Common.{take, drop, length-drop}
use Rattle.std.proofs.lemmas.List.{drop-drop}
use Rattle.std.specs.List.{sum_by}
use Rattle.sws_words.specs.declared.task.Form.{Form}
use Rattle.sws_words.specs.declared.task.Form.TheVariants.{Raw, Y4m}
use Rattle.y4m_io.specs.declared.fault.StreamFault.{StreamFault}
use Rattle.y4m_io.specs.FrameLine.{frame_line_cut}
use Rattle.sws_run.specs.Cut.{Frame, Frames, Piece, Nothing, Whole, Faulty, End, Clean, Broken, piece_cut, frames_cut, with_frame}
use Rattle.sws_run.specs.Cut.{last_end, whole_within}
use Rattle.sws_run.specs.Frames.{IsBehind, IsShort}
use Rattle.sws_run.proofs.Parts.{StandsAt, stands_at, ends_at, sum-next, whole-at}
use Rattle.sws_run.proofs.Whole.{IsBelowFirst}

pub cut_frame : (form : Form) (size most : ℕ) (bytes : List ℕ) (frame : Frame) → piece_cut form size bytes ≡ Whole frame
    → frames_cut form size (suc most) bytes ≡ with_frame frame (frames_cut form size most (drop frame.size bytes))
unfolding frames_cut
cut_frame form size most bytes frame is = rw (frames_cut, is) refl

pub cut_nothing : (form : Form) (size most : ℕ) (bytes : List ℕ) → piece_cut form size bytes ≡ Nothing
    → frames_cut form size (suc most) bytes ≡ record { frames = []; end = Clean }
unfolding frames_cut
cut_nothing form size most bytes is = rw (frames_cut, is) refl

pub cut_faulty : (form : Form) (size most : ℕ) (bytes : List ℕ) (fault : StreamFault) → piece_cut form size bytes ≡ Faulty fault
    → frames_cut form size (suc most) bytes ≡ record { frames = []; end = Broken fault }
unfolding frames_cut
cut_faulty form size most bytes fault is = rw (frames_cut, is) refl

pub cut_last : (form : Form) (size : ℕ) (bytes : List ℕ) → frames_cut form size 0 bytes ≡ record { frames = []; end = last_end bytes }
unfolding frames_cut
cut_last form size bytes = refl

pub nothing_left : (form : Form) (size : ℕ) (bytes : List ℕ) → bytes ≡ [] → piece_cut form size bytes ≡ Nothing
unfolding piece_cut frame_line_cut
nothing_left Raw size bytes none = rw none refl
nothing_left Y4m size bytes none = rw none refl

pub behind_then : (s n : ℕ) (bytes mid rest : List ℕ) → IsBehind s bytes mid → IsBehind n mid rest → IsBehind (s + n) bytes rest
behind_then s n bytes mid rest p q = record {
  within = omega (arith, p.within, q.within, ap length p.left, length-drop s bytes);
  left = q.left ∙ ap (drop n) p.left ∙ drop-drop n s bytes;
}

pub behind_none : (bytes : List ℕ) → IsBehind 0 bytes bytes
behind_none bytes = record { within = omega arith; left = refl }

-- k frames are behind, and what is left is cut into the others
pub record IsAt (form : Form) (size most k : ℕ) (bytes rest : List ℕ) : Type 0 where
  pub frames : (frames_cut form size (most - k) rest).frames ≡ drop k (frames_cut form size most bytes).frames
  pub end : (frames_cut form size (most - k) rest).end ≡ (frames_cut form size most bytes).end
  pub within : k ≤ length (frames_cut form size most bytes).frames
  pub behind : IsBehind (sum_by (λ frame. frame.size) (take k (frames_cut form size most bytes).frames)) bytes rest

pub at_start : (form : Form) (size most : ℕ) (bytes : List ℕ) → IsAt form size most 0 bytes bytes
at_start form size most bytes =
    let all : most - 0 ≡ most = omega arith in
    record {
      frames = ap (λ n. (frames_cut form size n bytes).frames) all;
      end = ap (λ n. (frames_cut form size n bytes).end) all;
      within = omega arith;
      behind = behind_none bytes;
    }

-- what the cut at this place begins with
cut_here : (form : Form) (size most k : ℕ) (bytes rest : List ℕ) (cut : Frames) → k < most
    → frames_cut form size (suc (most - (k + 1))) rest ≡ cut
    → IsAt form size most k bytes rest → (drop k (frames_cut form size most bytes).frames ≡ cut.frames) ×
    ((frames_cut form size most bytes).end ≡ cut.end)
cut_here form size most k bytes rest cut more is at =
    let next : most - k ≡ suc (most - (k + 1)) = omega arith in
    let here : frames_cut form size (most - k) rest ≡ cut = ap (λ n. frames_cut form size n rest) next ∙ is in (
      sym at.frames ∙ ap (λ c. c.frames) here,
      sym at.end ∙ ap (λ c. c.end) here,
    )

-- a frame stands there
pub at_frame : (form : Form) (size most k : ℕ) (bytes rest : List ℕ) (frame : Frame) → k < most → IsAt form size most k bytes rest
    → piece_cut form size rest ≡ Whole frame
    → StandsAt k frame (frames_cut form size (most - (k + 1)) (drop frame.size rest)).frames (frames_cut form size most bytes).frames
at_frame form size most k bytes rest frame more at is =
    let here = cut_here form size most k bytes rest _ more (cut_frame form size (most - (k + 1)) rest frame is) at in
    stands_at k frame (frames_cut form size (most - (k + 1)) (drop frame.size rest)).frames
    (frames_cut form size most bytes).frames at.within here.0

pub at_next : (form : Form) (size most k : ℕ) (bytes rest rest' : List ℕ) (frame : Frame) → k < most → IsAt form size most k bytes rest
    → piece_cut form size rest ≡ Whole frame
    → IsBehind frame.size rest rest' → IsAt form size most (k + 1) bytes rest'
at_next form size most k bytes rest rest' frame more at is behind =
    let stands = at_frame form size most k bytes rest frame more at is in
    let here = cut_here form size most k bytes rest _ more (cut_frame form size (most - (k + 1)) rest frame is) at in
    let all = (frames_cut form size most bytes).frames in
    record {
      frames = ap (λ l. (frames_cut form size (most - (k + 1)) l).frames) behind.left ∙ sym stands.behind;
      end = ap (λ l. (frames_cut form size (most - (k + 1)) l).end) behind.left ∙ sym here.1;
      within = stands.within;
      behind = subst (λ n. IsBehind n bytes rest') (sym (sum-next (λ f. f.size) k frame _ all stands))
          (behind_then (sum_by (λ f. f.size) (take k all)) frame.size bytes rest rest' at.behind behind);
    }

-- the frames end there
pub at_end : (form : Form) (size most k : ℕ) (bytes rest : List ℕ) (end : End) → k < most → IsAt form size most k bytes rest
    → frames_cut form size (suc (most - (k + 1))) rest ≡ record { frames = []; end = end }
    → (length (frames_cut form size most bytes).frames ≡ k) × ((frames_cut form size most bytes).end ≡ end)
at_end form size most k bytes rest end more at is =
    let here = cut_here form size most k bytes rest _ more is at in
    (ends_at k (frames_cut form size most bytes).frames at.within here.0, here.1)

pub at_nothing : (form : Form) (size most k : ℕ) (bytes rest : List ℕ) → k < most → IsAt form size most k bytes rest → rest ≡ []
    → (length (frames_cut form size most bytes).frames ≡ k) × ((frames_cut form size most bytes).end ≡ Clean)
at_nothing form size most k bytes rest more at none =
    at_end form size most k bytes rest Clean more at (cut_nothing form size (most - (k + 1)) rest (nothing_left form size rest none))

pub at_faulty : (form : Form) (size most k : ℕ) (bytes rest : List ℕ) (fault : StreamFault) → k < most → IsAt form size most k bytes rest
    → piece_cut form size rest ≡ Faulty fault
    → (length (frames_cut form size most bytes).frames ≡ k) × ((frames_cut form size most bytes).end ≡ Broken fault)
at_faulty form size most k bytes rest fault more at is = at_end form size most k bytes rest (Broken fault) more at
    (cut_faulty form size (most - (k + 1)) rest fault is)

-- no frame more is taken
pub at_last : (form : Form) (size most : ℕ) (bytes rest : List ℕ) → IsAt form size most most bytes rest
    → (length (frames_cut form size most bytes).frames ≡ most) × ((frames_cut form size most bytes).end ≡ last_end rest)
at_last form size most bytes rest at =
    let none : most - most ≡ 0 = omega arith in
    let here : frames_cut form size (most - most) rest ≡ record { frames = []; end = last_end rest } =
    ap (λ n. frames_cut form size n rest) none ∙ cut_last form size rest in (
      ends_at most (frames_cut form size most bytes).frames at.within (sym at.frames ∙ ap (λ c. c.frames) here),
      sym at.end ∙ ap (λ c. c.end) here,
    )

-- ---- fewer bytes than the next frame has

below_piece : (form : Form) (size most n : ℕ) (rest : List ℕ) (piece : Piece) → piece_cut form size rest ≡ piece → IsShort n piece
    → IsBelowFirst (λ frame. frame.size) n (frames_cut form size (suc most) rest).frames
below_piece form size most n rest Nothing is short = rw (cut_nothing form size most rest is) tt
below_piece form size most n rest (Whole frame) is short = rw (cut_frame form size most rest frame is) short
below_piece form size most n rest (Faulty fault) is short = rw (cut_faulty form size most rest fault is) tt

-- the frames that lie wholly in what was taken are those behind
pub at_part : (form : Form) (size most k n : ℕ) (bytes rest : List ℕ) → k < most → IsAt form size most k bytes rest
    → IsShort n (piece_cut form size rest)
    → whole_within (λ frame. frame.size) (sum_by (λ frame. frame.size) (take k (frames_cut form size most bytes).frames) + n)
    (frames_cut form size most bytes).frames ≡ k
at_part form size most k n bytes rest more at short =
    let next : suc (most - (k + 1)) ≡ most - k = omega arith in
    let below = below_piece form size (most - (k + 1)) n rest (piece_cut form size rest) refl short in
    let here = ap (λ m. (frames_cut form size m rest).frames) next ∙ at.frames in
    whole-at (λ frame. frame.size) k n (frames_cut form size most bytes).frames at.within
    (subst (IsBelowFirst (λ frame. frame.size) n) here below)

pub at_million : (form : Form) (size most : ℕ) (bytes rest : List ℕ) → IsAt form size most most bytes rest
    → whole_within (λ frame. frame.size) (sum_by (λ frame. frame.size) (take most (frames_cut form size most bytes).frames) + 0)
    (frames_cut form size most bytes).frames ≡ most
at_million form size most bytes rest at =
    let none : most - most ≡ 0 = omega arith in
    let here : drop most (frames_cut form size most bytes).frames ≡ [] =
    sym at.frames ∙ ap (λ n. (frames_cut form size n rest).frames) none ∙ ap (λ c. c.frames) (cut_last form size rest) in
    whole-at (λ frame. frame.size) most 0 (frames_cut form size most bytes).frames at.within
    (subst (IsBelowFirst (λ frame. frame.size) 0) (sym here) tt)
