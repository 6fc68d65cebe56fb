-- The text of an element. Words are given as they stand in the text: without `<`, `&` and quotes.
use Rattle.std.specs.Prelude.{ℕ, List, ◌++◌, codes}
use Rattle.std.specs.Fmt.{decimal}
use Rattle.guards_model.specs.Texts.{TextValue}
use Rattle.svg_text.specs.declared.pieces.Corner.{Corner}
use Rattle.svg_text.specs.declared.pieces.Side.{Side}

-- the words that appear over an element, and are read out in its place
unfoldable pub title_text : TextValue → TextValue
title_text words = codes "<title>" ++ words ++ codes "</title>"

-- the place of an element: to the right, and down
unfoldable pub at_text : Corner → TextValue
at_text at = codes "x='" ++ decimal at.x ++ codes "' y='" ++ decimal at.y ++ codes "'"

-- its sides
unfoldable pub side_text : Side → TextValue
side_text side = codes "width='" ++ decimal side.width ++ codes "' height='" ++ decimal side.height ++ codes "'"

-- a rectangle of a class, by its upper left corner and its sides, and what it says
unfoldable pub rect_text : TextValue → Corner → Side → TextValue → TextValue
rect_text class at side words =
    codes "<rect class='" ++ class ++ codes "' " ++ at_text at ++ codes " " ++ side_text side ++ codes ">"
    ++ title_text words ++ codes "</rect>\n"

-- a sign that the picture has drawn under a name, set at a place, and what it says
unfoldable pub svg_sign_text : TextValue → Corner → TextValue → TextValue
svg_sign_text name at words =
    codes "<use href='#" ++ name ++ codes "' " ++ at_text at ++ codes ">" ++ title_text words ++ codes "</use>\n"

-- a straight line of a class, from a place to another
unfoldable pub svg_line_text : TextValue → Corner → Corner → TextValue
svg_line_text class from to =
    codes "<line class='" ++ class ++ codes "' x1='" ++ decimal from.x ++ codes "' y1='" ++ decimal from.y
    ++ codes "' x2='" ++ decimal to.x ++ codes "' y2='" ++ decimal to.y ++ codes "'/>\n"

-- words of a class at a place
unfoldable pub label_text : TextValue → Corner → TextValue → TextValue
label_text class at words =
    codes "<text class='" ++ class ++ codes "' " ++ at_text at ++ codes ">" ++ words ++ codes "</text>\n"

-- the name of the language
unfoldable pub svg_name : TextValue
svg_name = codes "<svg xmlns='http://www.w3.org/2000/svg' role='img'\n"

-- a page that is narrower than the picture makes it smaller
unfoldable pub page_style : TextValue
page_style = codes "style='max-width:100%;height:auto'"

-- the sides of the picture in its own unit, and how many pixels of a page it is wide
unfoldable pub view_text : Side → ℕ → TextValue
view_text side pixels =
    codes "viewBox='0 0 " ++ decimal side.width ++ codes " " ++ decimal side.height ++ codes "' width='"
    ++ decimal pixels ++ codes "' "

-- the beginning of a picture, by its sides, its width in pixels, and what it is a picture of
unfoldable pub open_text : Side → ℕ → TextValue → TextValue
open_text side pixels words =
    svg_name ++ view_text side pixels ++ page_style ++ codes " aria-label='" ++ words ++ codes "'>\n"
    ++ title_text words ++ codes "\n"

-- its end
unfoldable pub close_text : TextValue
close_text = codes "</svg>\n"
