mod PlainGraphs
