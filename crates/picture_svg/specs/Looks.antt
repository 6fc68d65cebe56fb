-- The picture's colours and patterns, on light and on dark, its signs, and its legend.
use Rattle.std.specs.Prelude.{◌++◌, codes}
use Rattle.guards_model.specs.Texts.{TextValue}

-- the ground, the letters and the lines of the plot
unfoldable pub ground_style : TextValue
ground_style =
    codes "<style>\n"
    ++ codes ".card{fill:#fff;stroke:#d4d9de;stroke-width:100}text{font-family:DejaVu Sans,Verdana,sans-serif}\n"
    ++ codes ".head{fill:#1b2127;font-weight:600;font-size:1700px}.said{fill:#4c565f;font-size:1200px}\n"
    ++ codes ".alarm{fill:#b3261e;font-weight:600;font-size:1200px}"
    ++ codes ".name{fill:#1b2127;font-weight:600;font-size:1200px}\n"
    ++ codes ".small{fill:#5d6770;font-size:1000px}.tick{fill:#5d6770;font-size:1000px;text-anchor:middle}\n"
    ++ codes ".grid{stroke:#e3e7ea;stroke-width:100}.axis{stroke:#7d8790;stroke-width:100}.void{fill:#eef0f2}\n"

-- the marks
unfoldable pub mark_style : TextValue
mark_style =
    codes ".runs{fill:#a9cdea}.silent{fill:url(#hatch);stroke:#7d8790;stroke-width:80}.off{fill:url(#dots)}\n"
    ++ codes ".restored{fill:url(#bars)}.judged{fill:#d55e00}.count{fill:#7a4fa3;fill-opacity:.6}\n"
    ++ codes ".left{fill:#35b392;fill-opacity:.6}.vote{fill:#24638f;fill-opacity:.6}\n"
    ++ codes ".cross{fill:none;stroke:#b3261e;stroke-width:240;stroke-linecap:round}\n"
    ++ codes ".diamond{fill:#00694d;stroke:#fff;stroke-width:80}.disturbed{fill:none;stroke:#b3261e;stroke-width:200}\n"
    ++ codes ".stop{stroke:#b3261e;stroke-width:200}.ink{stroke:#7d8790;stroke-width:160}.leaf{fill:#35b392}\n"
    ++ codes ".rib{stroke:#fff;stroke-width:120;stroke-opacity:.75}.dot{fill:#7d8790}\n"
    ++ codes ".limit{fill:url(#dashes)}.dash{fill:#1b2127}\n"
    ++ codes ".ring{fill:none;stroke:#5d6770;stroke-width:220}\n"

-- the same on a dark page
unfoldable pub dark_style : TextValue
dark_style =
    codes "@media (prefers-color-scheme:dark){.card{fill:#161b20;stroke:#39424b}.head,.name{fill:#eef2f5}\n"
    ++ codes ".said{fill:#b9c3cb}.small,.tick{fill:#a3adb6}.alarm{fill:#ff7a6e}"
    ++ codes ".grid{stroke:#2a323a}.void{fill:#20272d}\n"
    ++ codes ".runs{fill:#37668c}.judged{fill:#ff8a3d}.count{fill:#c39ae8}"
    ++ codes ".vote{fill:#7cc0f0}.left,.leaf{fill:#21876b}\n"
    ++ codes ".cross,.disturbed,.stop{stroke:#ff7a6e}.diamond{fill:#4fe0b4;stroke:#161b20}.rib{stroke:#161b20}\n"
    ++ codes ".ring{stroke:#a3adb6}.dash{fill:#eef2f5}}\n"
    ++ codes "</style>\n"

-- the patterns, and the signs of a removal and of a join
unfoldable pub signs_text : TextValue
signs_text =
    codes "<defs>\n"
    ++ codes "<pattern id='hatch' width='500' height='500' patternUnits='userSpaceOnUse' "
    ++ codes "patternTransform='rotate(45)'>\n"
    ++ codes "<line class='ink' y2='500'/>\n"
    ++ codes "</pattern>\n"
    ++ codes "<pattern id='bars' width='600' height='3000' patternUnits='userSpaceOnUse'>\n"
    ++ codes "<rect class='leaf' width='600' height='3000'/>\n"
    ++ codes "<line class='rib' x1='300' x2='300' y2='3000'/>\n"
    ++ codes "</pattern>\n"
    ++ codes "<pattern id='dots' width='450' height='200' patternUnits='userSpaceOnUse'>\n"
    ++ codes "<rect class='dot' width='150' height='200'/>\n"
    ++ codes "</pattern>\n"
    ++ codes "<pattern id='dashes' width='600' height='600' patternUnits='userSpaceOnUse'>\n"
    ++ codes "<rect class='dash' width='350' height='600'/>\n"
    ++ codes "</pattern>\n"
    ++ codes "<path id='removed' class='cross' d='M-450,-450l900,900m0,-900l-900,900'/>\n"
    ++ codes "<path id='joined' class='diamond' d='M0,-650l650,650l-650,650l-650,-650Z'/>\n"
    ++ codes "<circle id='dropped' class='ring' r='550'/>\n"
    ++ codes "</defs>\n"

-- the legend: the states of a channel, and below them all else
unfoldable pub states_legend : TextValue
states_legend =
    codes "<rect class='runs' x='2000' y='0' width='2200' height='1200'/>\n"
    ++ codes "<text class='said' x='4900' y='1000'>runs</text>\n"
    ++ codes "<rect class='silent' x='9600' y='0' width='2200' height='1200'/>\n"
    ++ codes "<text class='said' x='12500' y='1000'>active, has no line</text>\n"
    ++ codes "<rect class='off' x='26800' y='500' width='2200' height='200'/>\n"
    ++ codes "<text class='said' x='29700' y='1000'>switched off</text>\n"
    ++ codes "<rect class='restored' x='40000' y='0' width='2200' height='1200'/>\n"
    ++ codes "<text class='said' x='42900' y='1000'>being restored</text>\n"
    ++ codes "<rect class='judged' x='55000' y='400' width='2200' height='400'/>\n"
    ++ codes "<text class='said' x='57900' y='1000'>judged errant</text>\n"

unfoldable pub signs_legend : TextValue
signs_legend =
    codes "<use href='#removed' x='70400' y='600'/>\n"
    ++ codes "<text class='said' x='72200' y='1000'>removed</text>\n"
    ++ codes "<use href='#joined' x='81100' y='600'/>\n"
    ++ codes "<text class='said' x='82900' y='1000'>declared joined</text>\n"
    ++ codes "<rect class='limit' x='97200' y='550' width='2200' height='100'/>\n"
    ++ codes "<text class='said' x='100100' y='1000'>threshold, final frame</text>\n"
    ++ codes "<rect class='count' x='2000' y='2200' width='2200' height='1200'/>\n"
    ++ codes "<text class='said' x='4900' y='3200'>error count</text>\n"
    ++ codes "<rect class='left' x='14400' y='2200' width='2200' height='1200'/>\n"
    ++ codes "<text class='said' x='17300' y='3200'>blocks left to send</text>\n"
    ++ codes "<rect class='vote' x='31600' y='2200' width='2200' height='1200'/>\n"
    ++ codes "<text class='said' x='34500' y='3200'>word of an output</text>\n"

unfoldable pub ends_legend : TextValue
ends_legend =
    codes "<rect class='disturbed' x='48600' y='2300' width='1200' height='1000'/>\n"
    ++ codes "<text class='said' x='50900' y='3200'>disturbed at the stop</text>\n"
    ++ codes "<rect class='void' x='67200' y='2200' width='2200' height='1200'/>\n"
    ++ codes "<text class='said' x='70100' y='3200'>not in the report</text>\n"
    ++ codes "<use href='#dropped' x='83600' y='2800'/>\n"
    ++ codes "<text class='said' x='85400' y='3200'>dropped from the transfer</text>\n"
