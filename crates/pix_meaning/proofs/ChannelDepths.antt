-- The depths of the channels.
use Rattle.std.proofs.Common.{◌≡◌, ℕ, ◌<◌, ◌≤◌, false, arith}
use Rattle.std.proofs.lemmas.Bool.{cond_both}
use Rattle.pix_desc.specs.declared.desc.Desc.{Desc}
use Rattle.pix_desc.specs.Component.{component_of}
use Rattle.pix_desc.specs.Layouts.{IsValid}
use Rattle.pix_desc.proofs.Valid.{laid_out}
use Rattle.pix_meaning.specs.Pairs.{has_channel, component_at, depth_of}
use Rattle.pix_meaning.specs.Channels.{channel_depth}
use Rattle.pix_meaning.proofs.ChannelCodes.{channel_listed}

-- a component that is there has at most 16 bits, and an entry of a palette has 8
depth_small : (desc : Desc) (j : ℕ) → IsValid desc → (desc.palette ≡ false → j < desc.count) → depth_of desc j ≤ 16
depth_small desc j valid listed =
    cond_both desc.palette 8 (component_of desc j).depth (λ d. d ≤ 16) (λ _. omega arith)
    (λ none. omega (arith, (laid_out desc valid).bits j (listed none)))

pub first_depth_small : (desc : Desc) → IsValid desc → depth_of desc 0 ≤ 16
first_depth_small desc valid = depth_small desc 0 valid (λ _. (laid_out desc valid).some)

pub channel_depth_small : (desc : Desc) (c : ℕ) → IsValid desc → c < 4 → channel_depth desc c ≤ 16
channel_depth_small desc c valid below =
    cond_both (has_channel desc c) (depth_of desc (component_at desc c)) (depth_of desc 0) (λ d. d ≤ 16)
    (λ there. depth_small desc (component_at desc c) valid (λ none. channel_listed desc c valid none below there))
    (λ _. first_depth_small desc valid)

depth_some : (desc : Desc) (j : ℕ) → IsValid desc → (desc.palette ≡ false → j < desc.count) → 1 ≤ depth_of desc j
depth_some desc j valid listed =
    cond_both desc.palette 8 (component_of desc j).depth (λ d. 1 ≤ d) (λ _. omega arith)
    (λ none. omega (arith, (laid_out desc valid).deep j (listed none)))

pub channel_depth_some : (desc : Desc) (c : ℕ) → IsValid desc → c < 4 → 1 ≤ channel_depth desc c
channel_depth_some desc c valid below =
    cond_both (has_channel desc c) (depth_of desc (component_at desc c)) (depth_of desc 0) (λ d. 1 ≤ d)
    (λ there. depth_some desc (component_at desc c) valid (λ none. channel_listed desc c valid none below there))
    (λ _. depth_some desc 0 valid (λ _. (laid_out desc valid).some))
