-- An instance: all that does not change while a run goes on. Assumes nothing.
use Rattle.std.specs.Prelude.{ℕ, ◌^◌, ◌<◌, ◌≤◌, List, ◌≡◌, length, count_ones, slice_index}
use Rattle.settings.specs.declared.setting.Setting.{Setting}
use Rattle.settings.specs.Contents.{Content, content}
use Rattle.arrays.specs.declared.array.Array.{Ghosts as ArrayOf}
use Rattle.arrays.specs.declared.array.Placement.{Ghosts as PlacementOf}
use Rattle.arrays.specs.Layouts.{Layout}

-- the blocks, the cache's size, the initial cache and the requests of a setting; the disks, homes and fetch time of an array
pub record Instance : Type 0 where
  pub blocks : ℕ
  pub size : ℕ
  pub initial : ℕ
  pub requests : List ℕ
  pub disks : ℕ
  pub homes : List ℕ
  pub time : ℕ

abbrev pub instance : Content → Layout → ℕ → Instance
instance s l time = record {
  blocks = s.blocks;
  size = s.size;
  initial = s.initial;
  requests = s.requests;
  disks = l.disks;
  homes = l.homes;
  time = time;
}

-- the instance of a setting and an array
abbrev pub instance_of : {X : Type 0} → PlacementOf X → ArrayOf X → Setting → X → Instance
instance_of P A s x = instance (content s) (P.layout x) (A.time x)

-- the block asked for at cursor c, which is request c + 1
abbrev pub asked : Instance → ℕ → ℕ
asked w c = slice_index w.requests c

-- the cursor at which all requests are served
abbrev pub last : Instance → ℕ
last w = length w.requests

-- the disk where a block lives
abbrev pub home : Instance → ℕ → ℕ
home w b = slice_index w.homes b

-- what every instance of a setting and an array has
pub record Sound (w : Instance) : Type 0 where
  pub some_block : 1 ≤ w.blocks
  pub few_blocks : w.blocks ≤ 64
  -- the initial cache has as many blocks as the cache holds, all of them below the number of blocks
  pub some_held : 1 ≤ w.size
  pub full : count_ones w.initial ≡ w.size
  pub known : w.initial < 2 ^ w.blocks
  -- each request names a block
  pub few_requests : last w ≤ 200
  pub named : (c : ℕ) → c < last w → asked w c < w.blocks
  -- each block lives on one of at most four disks
  pub some_disk : 1 ≤ w.disks
  pub few_disks : w.disks ≤ 4
  pub housed : (b : ℕ) → home w b < w.disks
  pub lasting : 1 ≤ w.time
  pub brief : w.time ≤ 64
